-- Why the nodes lead to the word: a key belongs to one node, which is its stretch set behind the node before it, and
-- every beginning of a node is a node.
use Prim.Native.Nat.{ℕ, zero, suc, ◌+◌, ◌*◌, ◌≤◌, ◌<◌}
use mathlib.Core.Path.{◌≡◌, refl, sym, ◌∙◌}
use mathlib.Core.Bool.{Bool, true, ◌&&◌, ◌||◌, not}
use mathlib.Core.List.{List, [], ◌∷◌, map}
use mathlib.Core.Logic.{◌⊎◌, inl, inr, ⊎_elim}
use native.Mathlib.Omega.{arith}
use borrow.Author.Tests.{eq-eqb, leb-true, lt-leb}
use lib.Dec.{eqb, leb}
use lib.ListN.{length, take, get_or}
use Rattle.little.specs.Little.{Bytes}
use Rattle.word.specs.Words.{keys, values, words, raised, upper, same, first_where}
use Rattle.word.specs.Lookup.{stems, node_count, nodes, node_of, marked, stretch, key_of, keyed}
use Rattle.word.proofs.Words.{clash, same_eq, both}
use Rattle.word.proofs.First.{look, all, each_of}

bytes_of : List ℕ → Bool
bytes_of [] = true
bytes_of (b ∷ w) = leb b 255 && bytes_of w

-- what is true of every node, by one test that computes: it has bytes, from one to thirty of them, all in upper case,
-- and its beginnings of 6, 12, 18 and 24 bytes are nodes
begins : ℕ → List ℕ → Bool
begins n w = leb (length w) n || not (eqb (node_of (take n w)) 0)

lawful : List ℕ → Bool
lawful w =
    bytes_of w && (leb 1 (length w) && (leb (length w) 30 && (same (upper w) w && (begins 6 w && (begins 12 w && (begins 18 w && begins 24 w))))))

tested : all lawful nodes ≡ true
unfolding keys values words raised upper same first_where stems nodes node_of bytes_of begins lawful
tested = refl

pub count : length nodes ≡ node_count
unfolding keys values words stems nodes
count = refl

pub known : keyed ≡ map key_of nodes
unfolding keys values words same first_where stems nodes node_of marked stretch key_of keyed
known = refl

are_bytes : (w : List ℕ) → bytes_of w ≡ true → Bytes w
unfolding bytes_of
are_bytes [] t i = omega arith
are_bytes (b ∷ w) t zero = omega (arith, leb-true b 255 (both (leb b 255) (bytes_of w) t).0)
are_bytes (b ∷ w) t (suc i) = are_bytes w (both (leb b 255) (bytes_of w) t).1 i

-- what the test says of a node
pub record Lawful (w : List ℕ) : Type 0 where
  pub whole : Bytes w
  pub some : 1 ≤ length w
  pub short : length w ≤ 30
  pub in_upper : upper w ≡ w
  pub begun : (q : ℕ) → 0 < q → 6 * q < length w → node_of (take (6 * q) w) ≡ 0 → ⊥

begun_at : (n : ℕ) (w : List ℕ) → begins n w ≡ true → n < length w → node_of (take n w) ≡ 0 → ⊥
unfolding begins
begun_at n w t h z = clash (sym t ∙ rw (lt-leb (length w) n h, eq-eqb _ _ z))

lawful_is : (w : List ℕ) → lawful w ≡ true → Lawful w
unfolding lawful
lawful_is w t =
    let t1 = both (bytes_of w) _ t in
    let t2 = both (leb 1 (length w)) _ t1.1 in
    let t3 = both (leb (length w) 30) _ t2.1 in
    let t4 = both (same (upper w) w) _ t3.1 in
    let t5 = both (begins 6 w) _ t4.1 in
    let t6 = both (begins 12 w) _ t5.1 in
    let t7 = both (begins 18 w) (begins 24 w) t6.1 in
    let short : length w ≤ 30 = leb-true _ _ t3.0 in
    record {
      whole = are_bytes w t1.0;
      some = leb-true _ _ t2.0;
      short = short;
      in_upper = same_eq (upper w) w t4.0;
      begun = begun short t5.0 t6.0 t7.0 t7.1;
    }
  where
    begun : length w ≤ 30 → begins 6 w ≡ true → begins 12 w ≡ true → begins 18 w ≡ true → begins 24 w ≡ true
        → (q : ℕ) → 0 < q → 6 * q < length w → node_of (take (6 * q) w) ≡ 0 → ⊥
    begun s b6 b12 b18 b24 zero p h z = omega arith
    begun s b6 b12 b18 b24 (suc zero) p h z = begun_at 6 w b6 h z
    begun s b6 b12 b18 b24 (suc (suc zero)) p h z = begun_at 12 w b12 h z
    begun s b6 b12 b18 b24 (suc (suc (suc zero))) p h z = begun_at 18 w b18 h z
    begun s b6 b12 b18 b24 (suc (suc (suc (suc zero)))) p h z = begun_at 24 w b24 h z
    begun s b6 b12 b18 b24 (suc (suc (suc (suc (suc q))))) p h z = omega arith

pub node_law : (j : ℕ) → j < length nodes → Lawful (get_or nodes j [])
node_law j h = lawful_is (get_or nodes j []) (each_of lawful nodes tested j h)

-- the bytes that have a node's number are the node's
pub record Node (v : List ℕ) : Type 0 where
  pub j : ℕ
  pub number : node_of v ≡ 1 + j
  pub inside : j < length nodes
  pub is : v ≡ get_or nodes j []

pub node_or_none : (v : List ℕ) → Node v ⊎ (node_of v ≡ 0)
unfolding node_of
node_or_none v = ⊎_elim
    (λ r. inl (record { j = r.j; number = r.number; inside = r.inside; is = same_eq v (get_or nodes r.j []) r.holds }))
    (λ r. inr r.none)
    (look (same v) 1 nodes)

pub few : (v : List ℕ) → node_of v ≤ node_count
few v = ⊎_elim (λ r. omega (arith, r.number, r.inside, count)) (λ z. omega (arith, z)) (node_or_none v)
