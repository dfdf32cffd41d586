-- The screen at the length limit: a text of 16,777,216 bytes is read and one of a byte more is not, since the limit is on the length alone.
use Prim.Native.Nat.{ℕ, zero, suc, ◌≤◌, ◌<◌}
use mathlib.Core.Path.{◌≡◌, refl}
use mathlib.Core.Bool.{Bool, true}
use mathlib.Core.List.{List}
use native.Mathlib.Nat.{zero-add}
use native.Mathlib.Omega.{arith}
use borrow.Author.Tests.{lt-ltb, le-ltb, le-leb}
use lib.ListN.{length, replicate, length-replicate}
use Rattle.refusal.specs.Table.{refused, too_long}
use Rattle.std.specs.Prelude.{Ok, Err}
use Rattle.lexer.specs.Bytes.{is_ascii}
use Rattle.lexer.specs.Run.{run}
use Rattle.lexer.specs.Screen.{limit, screened}

pub too_long_lem : (s : List ℕ) → limit < length s → screened s ≡ Err (refused too_long 0 0)
unfolding screened
too_long_lem s h = rw (lt-ltb limit (length s) h)

run_all : (p : ℕ → Bool) (n b : ℕ) → p b ≡ true → run p (replicate n b) ≡ n
unfolding run
run_all p zero b h = refl
run_all p (suc n) b h = rw (h, run_all p n b h)

-- so many bytes, each of them b
pub clear : (n b : ℕ) → n ≤ limit → b ≤ 127 → screened (replicate n b) ≡ Ok tt
unfolding screened
clear n b h k = rw (length-replicate n b, le-ltb limit n h, run_all is_ascii n b (le-leb b 127 k), zero-add n, le-ltb n n (omega arith))

pub over : (n b : ℕ) → limit < n → screened (replicate n b) ≡ Err (refused too_long 0 0)
over n b h = too_long_lem (replicate n b) (rw (length-replicate n b) h)

-- 16,777,216 spaces, and one more
pub at_the_limit : screened (replicate 16777216 32) ≡ Ok tt
at_the_limit = clear 16777216 32 (omega arith) (omega arith)

pub one_more : screened (replicate 16777217 32) ≡ Err (refused too_long 0 0)
one_more = over 16777217 32 (omega arith)
