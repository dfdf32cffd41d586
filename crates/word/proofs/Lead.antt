-- Where the stretches of a word lead: each key leads to the node that its stretch makes of the node before it.
use Prim.Native.Nat.{ℕ, zero, suc, ◌+◌, ◌-◌, ◌*◌, ◌/◌, ◌≤◌, ◌<◌}
use mathlib.Core.Path.{◌≡◌, refl, sym, ap, ◌∙◌}
use mathlib.Core.Bool.{Bool, true, false, cond}
use mathlib.Core.List.{List, [], ◌∷◌, ◌++◌, map}
use mathlib.Core.Logic.{⊎_elim}
use native.Mathlib.Omega.{arith}
use borrow.Author.Tests.{eq-eqb, ne_eqb, eqb-true, leb-true, leb-false}
use lib.Dec.{eqb, leb}
use lib.ListN.{length, take, drop, get_or, length-append, take-append-drop}
use lib.Seq.{take_at, drop_at}
use Rattle.little.specs.Little.{Bytes}
use Rattle.little.proofs.Laws.{drop_bytes}
use Rattle.text.specs.Text.{bytes}
use Rattle.word.specs.Words.{keys, values, words, upper, same, first_where, word_of}
use Rattle.word.specs.Lookup.{stems, word_count, nodes, node_of, marked, stretch, key_of, place_in, next_of}
use Rattle.word.proofs.Words.{clash, same_eq, same_refl}
use Rattle.word.proofs.Marked.{told}
use Rattle.word.proofs.First.{look, agree, joined}
use Rattle.word.proofs.Trie.{Lawful, Node, node_law, node_or_none, few, known}

-- a place in the list of keys is that of the first node that has the key
placed : (n : ℕ) (ws : List (List ℕ)) (key : ℕ) → place_in n (map key_of ws) key ≡ first_where (λ w. eqb (key_of w) key) n ws
unfolding place_in first_where
placed n [] key = refl
placed n (w ∷ ws) key = rw (placed (suc n) ws key)

-- a node whose beginning is no node is one stretch long
first_stretch : (w : List ℕ) → Lawful w → node_of (take (stretch w) w) ≡ 0 → take (stretch w) w ≡ []
unfolding stretch
first_stretch w h z = go ((length w - 1) / 6) refl
  where
    go : (q : ℕ) → (length w - 1) / 6 ≡ q → take (6 * ((length w - 1) / 6)) w ≡ []
    go zero e = rw e
    go (suc q) e = absurd (h.begun ((length w - 1) / 6) (omega arith) (omega (arith, h.some)) z)

-- v is a whole number of stretches, a node or nothing, and c the next stretch
pub record Ahead (v c : List ℕ) : Type 0 where
  pub q : ℕ
  pub whole : length v ≡ 6 * q
  pub some : 1 ≤ length c
  pub short : length c ≤ 6
  pub bytes : Bytes c
  pub begun : node_of v ≡ 0 → v ≡ []

module _ (v c : List ℕ) (a : Ahead v c) where
  cut : stretch (v ++ c) ≡ length v
  unfolding stretch
  cut =
      let e : length (v ++ c) ≡ 6 * a.q + length c = length-append v c ∙ ap (λ n. n + length c) a.whole in
      let d : (6 * a.q + length c - 1) / 6 ≡ a.q = omega (arith, a.some, a.short) in
      rw (e, d) (sym a.whole)

  key_is : key_of (v ++ c) ≡ node_of v + 256 * marked c
  unfolding key_of
  key_is = rw (cut, take_at v c (length v) refl, drop_at v c (length v) refl)

  -- the node before the last stretch of a node w, where the keys are equal
  stem : (w : List ℕ) → Lawful w → node_of (take (stretch w) w) ≡ node_of v → take (stretch w) w ≡ v
  stem w h e = ⊎_elim (λ r. node r) (λ z. none z) (node_or_none v)
    where
      node : Node v → take (stretch w) w ≡ v
      node r = ⊎_elim
          (λ t. let i : t.j ≡ r.j = omega (arith, e, t.number, r.number) in t.is ∙ ap (λ j. get_or nodes j []) i ∙ sym r.is)
          (λ z. absurd (omega (arith, e, z, r.number)))
          (node_or_none (take (stretch w) w))

      none : node_of v ≡ 0 → take (stretch w) w ≡ v
      none z = first_stretch w h (e ∙ z) ∙ sym (a.begun z)

  only : (w : List ℕ) → Lawful w → key_of w ≡ node_of v + 256 * marked c → w ≡ v ++ c
  unfolding key_of
  only w h e =
      let n : node_of (take (stretch w) w) ≡ node_of v = omega (arith, e, few v, few (take (stretch w) w)) in
      let m : marked (drop (stretch w) w) ≡ marked c = omega (arith, e, few v, few (take (stretch w) w)) in
      let d : drop (stretch w) w ≡ c = told _ _ (drop_bytes (stretch w) w h.whole) a.bytes m in
      sym (take-append-drop (stretch w) w) ∙ cc (stem w h n, d)

  pub leads : next_of (node_of v + 256 * marked c) ≡ node_of (v ++ c)
  unfolding next_of node_of
  leads = rw known (placed 1 nodes (node_of v + 256 * marked c) ∙ agree _ (same (v ++ c)) 1 nodes alike)
    where
      at : (w : List ℕ) → Lawful w → (b : Bool) → same (v ++ c) w ≡ b → eqb (key_of w) (node_of v + 256 * marked c) ≡ b
      at w l true p = eq-eqb _ _ (ap key_of (sym (same_eq (v ++ c) w p)) ∙ key_is)
      at w l false p = ne_eqb _ _ (λ e. clash (sym (same_refl (v ++ c)) ∙ ap (same (v ++ c)) (sym (only w l e)) ∙ p))

      alike : (j : ℕ) → j < length nodes → eqb (key_of (get_or nodes j [])) (node_of v + 256 * marked c) ≡ same (v ++ c) (get_or nodes j [])
      alike j h = at (get_or nodes j []) (node_law j h) (same (v ++ c) (get_or nodes j [])) refl

-- a node's beginnings are nodes, so what begins with no node is none
pub no_node : (u : List ℕ) (q : ℕ) → 0 < q → 6 * q < length u → node_of (take (6 * q) u) ≡ 0 → node_of u ≡ 0
no_node u q p h z = ⊎_elim
    (λ r. absurd ((node_law r.j r.inside).begun q p (rw r.is at h) (rw r.is at z)))
    (λ e. e)
    (node_or_none u)

-- the first nodes are the words
few_words : (s : List ℕ) → word_of s ≤ word_count
unfolding keys values words word_of
few_words s = ⊎_elim (λ r. omega (arith, r.number, r.inside)) (λ r. omega (arith, r.none)) (look (same (upper s)) 1 words)

module _ (s : List ℕ) (k : ℕ) (e : k ≡ node_of (upper s)) where
  others : ℕ
  others = first_where (same (upper s)) (suc word_count) (map bytes stems)

  in_both : k ≡ cond (eqb (word_of s) 0) others (word_of s)
  unfolding keys values words nodes node_of word_of others
  in_both = e ∙ joined (same (upper s)) 0 words (map bytes stems)

  pub is_word : k ≤ word_count → k ≡ word_of s
  unfolding others
  is_word h = go (eqb (word_of s) 0) refl
    where
      go : (b : Bool) → eqb (word_of s) 0 ≡ b → k ≡ word_of s
      go true z =
          let f : k ≡ others = rw z at in_both in
          ⊎_elim (λ r. absurd (omega (arith, f, r.number))) (λ r. f ∙ r.none ∙ sym (eqb-true _ _ z)) (look (same (upper s)) (suc word_count) (map bytes stems))
      go false z = rw z at in_both

  pub no_word : word_count < k → 0 ≡ word_of s
  no_word h = go (eqb (word_of s) 0) refl
    where
      go : (b : Bool) → eqb (word_of s) 0 ≡ b → 0 ≡ word_of s
      go true z = sym (eqb-true _ _ z)
      go false z = let f : k ≡ word_of s = rw z at in_both in absurd (omega (arith, f, few_words s))

  -- the word that the node is
  pub word_here : cond (leb k word_count) k 0 ≡ word_of s
  word_here = go (leb k word_count) refl
    where
      go : (b : Bool) → leb k word_count ≡ b → cond (leb k word_count) k 0 ≡ word_of s
      go true f = rw f (is_word (leb-true _ _ f))
      go false f = rw f (no_word (leb-false _ _ f))
