-- What an act does, by its number.
use Prim.Native.Nat.{ℕ, ◌-◌, ◌/◌, ◌%◌, ◌≤◌, ◌<◌}
use mathlib.Core.Path.{◌≡◌, refl, sym, ap, ◌∙◌}
use mathlib.Core.Bool.{Bool, true, false, cond}
use mathlib.Core.List.{[], ◌∷◌}
use native.Mathlib.Decide.{dec_lt}
use native.Mathlib.Omega.{arith}
use borrow.Author.Tests.{lt-ltb, le-ltb, le-leb, lt-leb, ne_eqb}
use lib.Dec.{eqb}
use Rattle.grammar.specs.Tokens.{Tok, Ahead, Answer, ok, refused}
use Rattle.grammar.specs.Grammar.{semi, whole, Act, statement, close, refuse, back, up_to54, Body, keyed, worded, options, parts, counted}
use Rattle.grammar.specs.Table.{body}
use Rattle.grammar.specs.Engine.{Frame}
use Rattle.grammar.specs.Turns.{halts, backs, perform}
use Rattle.grammar.specs.Reading.{Mark}
use Rattle.rows.specs.Packed.{block_of, items_of, move_of, plain, act_of, form_of, form_in, part_of, part_in, end_in}
use Rattle.parser.specs.Stepped.{runs, stopped_as, SameAct}

-- a head that holds at every version
pub low_act : (h i : ℕ) → h % 256 < 128 → act_of h i ≡ plain (h % 256) (h / 256) i
unfolding act_of
low_act h i l = let e : h % 128 ≡ h % 256 = omega arith in rw (lt-leb 128 (h % 256) l, e)

-- its kinds
pub plain_record : (n m i : ℕ) → n < 64 → plain n m i ≡ statement n (items_of i) (move_of m)
unfolding plain
plain_record n m i l = rw (lt-ltb n 64 l)

pub plain_close : (n m i : ℕ) → n ≡ 64 → plain n m i ≡ close (items_of i)
unfolding plain
plain_close n m i e = rw e

plain_stop : (n m i : ℕ) → 64 < n → plain n m i ≡ cond (eqb n 66) back (refuse (n - 80))
unfolding plain
plain_stop n m i l = rw (le-ltb n 64 (omega arith), ne_eqb n 64 (λ e. omega arith))

module _ (v : ℕ) (f : Frame ℕ) (a : Ahead ℕ Mark) (n m i : ℕ) where
  plain_runs : (t : Tok ℕ Mark) (b : Ahead ℕ Mark) (p : Mark) → n ≤ 64 → runs f a b (plain n m i) ≡ perform v f a (ok t b) p (plain n m i)
  unfolding perform
  plain_runs t b p l = elim (dec_lt n 64) [
    | yes q ↦ rw (plain_record n m i q)
    | no q ↦ rw (plain_close n m i (omega arith))
  ]

  plain_refused : (k : ℕ) (q p : Mark) → n ≤ 64 → halts k q ≡ perform v f a (refused k q) p (plain n m i)
  unfolding perform
  plain_refused k q p l = elim (dec_lt n 64) [
    | yes g ↦ rw (plain_record n m i g)
    | no g ↦ rw (plain_close n m i (omega arith))
  ]

  plain_stopped : (taken : Answer ℕ Mark (Tok ℕ Mark)) (p : Mark) → 64 < n → stopped_as n p ≡ perform v f a taken p (plain n m i)
  unfolding perform
  plain_stopped taken p l = rw (plain_stop n m i l) (either (eqb n 66))
    where
      either : (t : Bool) → cond t backs (halts (n - 80) p) ≡ perform v f a taken p (cond t back (refuse (n - 80)))
      either true = refl
      either false = refl

-- the same of the act in its place
module _ (v : ℕ) (f : Frame ℕ) (a : Ahead ℕ Mark) (h i : ℕ) (held act : Act) (l : h % 256 < 128) (same : SameAct v (act_of h i) held) (is : held ≡ act) where
  performs : (taken : Answer ℕ Mark (Tok ℕ Mark)) (p : Mark) → perform v f a taken p (plain (h % 256) (h / 256) i) ≡ perform v f a taken p act
  performs taken p = ap (perform v f a taken p) (sym (low_act h i l)) ∙ same f a taken p ∙ ap (perform v f a taken p) is

  pub act_runs : (t : Tok ℕ Mark) (b : Ahead ℕ Mark) (p : Mark) → h % 256 ≤ 64 → runs f a b (act_of h i) ≡ perform v f a (ok t b) p act
  act_runs t b p q = rw (low_act h i l) (plain_runs v f a (h % 256) (h / 256) i t b p q ∙ performs (ok t b) p)

  pub act_refused : (k : ℕ) (q p : Mark) → h % 256 ≤ 64 → halts k q ≡ perform v f a (refused k q) p act
  act_refused k q p g = plain_refused v f a (h % 256) (h / 256) i k q p g ∙ performs (refused k q) p

  pub act_stopped : (taken : Answer ℕ Mark (Tok ℕ Mark)) (p : Mark) → 64 < h % 256 → stopped_as (h % 256) p ≡ perform v f a taken p act
  act_stopped taken p q = plain_stopped v f a (h % 256) (h / 256) i taken p q ∙ performs taken p

-- an act whose items follow
abbrev pub Follows : Act → Type 0
Follows (statement k is m) = Unit {0}
Follows (close is) = Unit {0}
Follows (refuse n) = ⊥
Follows back = ⊥
Follows (up_to54 act) = ⊥

never_follows : (t : Bool) (n : ℕ) → Follows (cond t back (refuse n)) → ⊥
never_follows true n x = x
never_follows false n x = x

older : (h i : ℕ) → 128 ≤ h % 256 → Follows (act_of h i) → ⊥
unfolding act_of
older h i g x = rw (le-leb 128 (h % 256) g) at x

-- has a number of those
pub low_head : (h i : ℕ) (act : Act) → act_of h i ≡ act → Follows act → h % 256 ≤ 64
low_head h i act e x = elim (dec_lt (h % 256) 128) [
  | yes l ↦ elim (dec_lt 64 (h % 256)) [
    | yes q ↦ absurd (never_follows (eqb (h % 256) 66) (h % 256 - 80) (rw (← e, low_act h i l, plain_stop (h % 256) (h / 256) i q) at x))
    | no q ↦ omega arith
  ]
  | no l ↦ absurd (older h i (omega arith) (rw (← e) at x))
]

-- so the parts of a block, and their end
part_follows : (b : Body) → 3 ≤ form_of b → Follows (part_of b)
unfolding form_of part_of
part_follows (keyed n rows) l = absurd (omega (arith, l))
part_follows (worded rows) l = absurd (omega (arith, l))
part_follows (options rows n) l = absurd (omega (arith, l))
part_follows (parts k is) l = tt
part_follows (counted k is) l = tt

pub part_low : (h i b : ℕ) → act_of h i ≡ part_in b → 3 ≤ form_in b → h % 256 ≤ 64
unfolding form_in part_in
part_low h i b e l = low_head h i (part_of (body (block_of b))) e (part_follows (body (block_of b)) l)

end_follows : (t : Bool) → Follows (cond t (close (semi ∷ [])) (close (whole 6 ∷ semi ∷ [])))
end_follows true = tt
end_follows false = tt

pub end_low : (h i n : ℕ) → act_of h i ≡ end_in n → h % 256 ≤ 64
unfolding end_in
end_low h i n e = low_head h i (end_in n) e (end_follows (eqb n 4))
