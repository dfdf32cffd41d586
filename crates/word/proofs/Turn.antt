-- One turn of the look-up: the bytes passed are a node, and the next stretch leads to the next node or shows that there is no word.
use Prim.Native.Nat.{ℕ, ◌+◌, ◌-◌, ◌*◌, ◌≤◌, ◌<◌, min}
use mathlib.Core.Path.{◌≡◌, sym, ap, ◌∙◌}
use mathlib.Core.List.{List}
use native.Mathlib.Decide.{dec_lt}
use native.Mathlib.Omega.{arith}
use lib.ListN.{length, take, drop, get_or, length-take, length-drop}
use lib.Seq.{take-add, take_all, length-take-le}
use Rattle.little.specs.Little.{Bytes}
use Rattle.little.proofs.Laws.{take_bytes, drop_bytes}
use Rattle.word.specs.Words.{upper}
use Rattle.word.specs.Lookup.{node_of, marked, next_of}
use Rattle.word.proofs.Words.{upper_at, raised_small}
use Rattle.word.proofs.Lead.{Ahead, leads, no_node}

-- the bytes before the place are a node, or none are passed; and before the end a whole number of stretches is passed
pub record Led (u : List ℕ) (at node : ℕ) : Type 0 where
  pub within : at ≤ length u
  pub number : node ≡ node_of (take at u)
  pub q : ℕ
  pub whole : at < length u → at ≡ 6 * q
  pub begun : node ≡ 0 → at ≡ 0

pub upper_bytes : (s : List ℕ) → Bytes s → Bytes (upper s)
upper_bytes s h i = rw (upper_at s i) (raised_small (get_or s i 0) (h i))

module _ (u : List ℕ) (at node : ℕ) (l : Led u at node) (h : at < length u) (bs : Bytes u) (stop : ℕ) (e : stop ≡ min (at + 6) (length u)) where
  next_stretch : List ℕ
  next_stretch = take (stop - at) (drop at u)

  long : length next_stretch ≡ stop - at
  unfolding next_stretch
  long = simp (length-take, length-drop) (omega arith)

  ahead : Ahead (take at u) next_stretch
  unfolding next_stretch
  ahead =
      record {
        q = l.q;
        whole = length-take-le at u l.within ∙ l.whole h;
        some = rw long (omega arith);
        short = rw long (omega arith);
        bytes = take_bytes (stop - at) (drop at u) (drop_bytes at u bs);
        begun = λ z. rw (l.begun (l.number ∙ z));
      }

  reached : next_of (node + 256 * marked next_stretch) ≡ node_of (take stop u)
  unfolding next_stretch
  reached =
      let s : at + (stop - at) ≡ stop = omega arith in
      ap (λ k. next_of (k + 256 * marked next_stretch)) l.number ∙ leads (take at u) next_stretch ahead ∙ ap node_of (sym (take-add at (stop - at) u) ∙ ap (λ n. take n u) s)

  pub on : (k : ℕ) → k ≡ next_of (node + 256 * marked (take (stop - at) (drop at u))) → (k ≡ 0 → ⊥) → Led u stop k
  unfolding next_stretch
  on k f z =
      record {
        within = omega arith;
        number = f ∙ reached;
        q = l.q + 1;
        whole = λ p. omega (arith, l.whole h);
        begun = λ y. absurd (z y);
      }

  pub over : (k : ℕ) → k ≡ next_of (node + 256 * marked (take (stop - at) (drop at u))) → k ≡ 0 → node_of u ≡ 0
  unfolding next_stretch
  over k f z =
      let y : node_of (take stop u) ≡ 0 = sym reached ∙ sym f ∙ z in
      elim (dec_lt stop (length u)) [
        | yes p ↦ let s : stop ≡ 6 * (l.q + 1) = omega (arith, l.whole h) in no_node u (l.q + 1) (omega arith) (omega arith) (rw s at y)
        | no n ↦ rw (take_all stop u (omega arith)) at y
      ]
