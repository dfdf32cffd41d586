-- `word::codes::value` meets its contract: the pair at a place is the two numbers there of the list of their numbers.
use Rattle.std.proofs.Common.{◌≡◌, ℕ, ◌+◌, ◌-◌, ◌*◌, ◌<◌, ◌≤◌, Bool, true, false, nat_eq, cond, List, length, get_or, refl, arith}
use lib.ListN.{get_or-eq_default}
use borrow.Author.Tests.{ne_eqb, eqb-false}
use Rattle.word.specs.Codes.{flat, values_of}
use Rattle.word.specs.Spelling.{first_of, second_of}
use Rattle.word.proofs.Values.{pair_at, flat_length}
use Rattle.word.proofs.codes.value.Goals as goal

-- the value of a code that the list of the kind has, and of another
module _ (kind code : ℕ) (l : List (ℕ × ℕ)) (e : flat l ≡ values_of kind) where
  pub listed : 0 < code → code ≤ length l → get_or l (code - 1) (0, 0) ≡ (first_of kind code, second_of kind code)
  unfolding first_of second_of
  listed h k =
      let p = pair_at (code - 1) l (omega arith) in
      let i : 2 * (code - 1) ≡ 2 * code - 2 = omega arith in
      let j : 2 * (code - 1) + 1 ≡ 2 * code - 1 = omega arith in
      let n = ne_eqb code 0 (omega arith) in
      rw (n, ← e, ← i, ← j) (λ m. (p.0 m, p.1 m))

  pub other : (0 < code → length l < code) → ◌≡◌ {A = ℕ × ℕ} (0, 0) (first_of kind code, second_of kind code)
  unfolding first_of second_of
  other h = go (nat_eq code 0) refl
    where
      n : length (flat l) ≡ 2 * length l
      n = flat_length l

      go : (b : Bool) → nat_eq code 0 ≡ b → ◌≡◌ {A = ℕ × ℕ} (0, 0) (cond b 0 (get_or (values_of kind) (2 * code - 2) 0), cond b 0 (get_or (values_of kind) (2 * code - 1) 0))
      go true z = refl
      go false z =
          let q : 0 < code = omega (arith, eqb-false code 0 z) in
          let r : length l < code = h q in
          let x : get_or (flat l) (2 * code - 2) 0 ≡ 0 = get_or-eq_default (flat l) 0 {n = 2 * code - 2} (omega (arith, n)) in
          let y : get_or (flat l) (2 * code - 1) 0 ≡ 0 = get_or-eq_default (flat l) 0 {n = 2 * code - 1} (omega (arith, n)) in
          rw (← e, x, y) refl

pub returns-then-place-values : goal.returns-then-place-values
returns-then-place-values c =
    listed c.args.kind c.args.code c.values-values.result.now c.values-values.ensures.listed c.if-place-gt0.true c.if-place-values.true

pub returns-else-place-gt0 : goal.returns-else-place-gt0
returns-else-place-gt0 c =
    other c.args.kind c.args.code c.values-values.result.now c.values-values.ensures.listed (λ h. omega (arith, c.else-place-gt0.either))
