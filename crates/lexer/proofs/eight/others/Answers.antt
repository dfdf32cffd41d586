-- `eight::others` meets its contract: each of its operations acts on each byte by itself.
use Prim.Native.Nat.{ℕ, ◌+◌, ◌-◌, ◌*◌, ◌≤◌, ◌<◌}
use mathlib.Core.Path.{◌≡◌, sym, ap, ap₂, ◌∙◌}
use mathlib.Core.List.{List}
use native.Mathlib.Nat.{lt_of_le_of_lt}
use native.Mathlib.Omega.{arith}
use lib.Bits.{bit_and, bit_or, bit_xor, and_le_l, and_le_r, or_lt, xor_lt}
use Rattle.lexer.specs.Eight.{each, plain, Packed}
use Rattle.lexer.proofs.EightBits.{Small, ands, ors, xors, sums, all, turned}
use Rattle.lexer.proofs.eight.others.Goals as goal

abbrev ones : ℕ
ones = 0x0101010101010101

abbrev lows : ℕ
lows = 0x7f7f7f7f7f7f7f7f

-- the low seven bits of a byte, whether they differ from k, and the sum with k
abbrev low : ℕ → ℕ
low b = bit_and b 127

abbrev differs : ℕ → ℕ → ℕ
differs k b = bit_xor (low b) k + 127

abbrev more : ℕ → ℕ → ℕ
more k b = low b + k

low_le : (b : ℕ) → low b ≤ 127
low_le b = and_le_r b 127

module _ (one up over : ℕ) (o : one < 128) (u : up ≤ 128) (v : over ≤ 128) where
  small_differs : Small (differs one)
  small_differs b h = omega (arith, xor_lt 7 (low b) one (omega (arith, low_le b)) o)

  small_more : Small (more up)
  small_more b h = omega (arith, low_le b)

  small_out : Small (λ b. bit_or (255 - more up b) (more over b))
  small_out b h = or_lt 8 (255 - more up b) (more over b) (omega arith) (omega (arith, low_le b))

  small_both : Small (λ b. bit_and (differs one b) (bit_or (255 - more up b) (more over b)))
  small_both b h = lt_of_le_of_lt (and_le_l (differs one b) _) (small_differs b h)

  -- all of it, of eight bytes
  module _ (l : List ℕ) (w : ℕ) (p : Packed l w) where
    lows_of : bit_and w lows ≡ each low l
    lows_of = ap₂ bit_and p.packs (sym (all 127 l p.long)) ∙ ands plain (λ b. 127) (λ b h. h) (λ b h. omega arith) l p.bytes

    differ : bit_xor (bit_and w lows) (one * ones) + lows ≡ each (differs one) l
    differ =
        ap₂ (λ m n. m + n)
        (ap₂ bit_xor lows_of (sym (all one l p.long)) ∙ xors low (λ b. one) (λ b h. omega (arith, low_le b)) (λ b h. omega arith) l p.bytes)
        (sym (all 127 l p.long))
        ∙ sums (λ b. bit_xor (low b) one) (λ b. 127) l

    mores : (k : ℕ) → bit_and w lows + k * ones ≡ each (more k) l
    mores k = ap₂ (λ m n. m + n) lows_of (sym (all k l p.long)) ∙ sums low (λ b. k) l

    outs : bit_or (18446744073709551615 - (bit_and w lows + up * ones)) (bit_and w lows + over * ones) ≡ each (λ b. bit_or (255 - more up b) (more over b)) l
    outs =
        ap₂ bit_or (ap (λ n. 18446744073709551615 - n) (mores up) ∙ turned (more up) small_more l p.bytes p.long) (mores over)
        ∙ ors (λ b. 255 - more up b) (more over) (λ b h. omega arith) (λ b h. omega (arith, low_le b)) l p.bytes

    marked : bit_and (bit_or (bit_and (bit_xor (bit_and w lows) (one * ones) + lows) (bit_or (18446744073709551615 - (bit_and w lows + up * ones)) (bit_and w lows + over * ones))) w) 0x8080808080808080
        ≡ each (λ b. bit_and (bit_or (bit_and (differs one b) (bit_or (255 - more up b) (more over b))) b) 128) l
    marked =
        ap₂ bit_and
        (ap₂ bit_or
        (ap₂ bit_and differ outs ∙ ands (differs one) (λ b. bit_or (255 - more up b) (more over b)) small_differs small_out l p.bytes)
        p.packs
        ∙ ors (λ b. bit_and (differs one b) (bit_or (255 - more up b) (more over b))) plain small_both (λ b h. h) l p.bytes)
        (sym (all 128 l p.long))
        ∙ ands _ (λ b. 128) (λ b h. or_lt 8 _ b (small_both b h) h) (λ b h. omega arith) l p.bytes

pub overflow_add-differs : goal.overflow_add-differs
overflow_add-differs c =
    omega (arith, xor_lt 63 (bit_and c.args.w lows) (c.args.one * ones) (omega (arith, and_le_r c.args.w lows)) (omega arith))

pub overflow_add-reaches : goal.overflow_add-reaches
overflow_add-reaches c =
    omega (arith, and_le_r c.args.w lows)

pub overflow_add-exceeds : goal.overflow_add-exceeds
overflow_add-exceeds c =
    omega (arith, and_le_r c.args.w lows)

pub returns : goal.returns
returns c l p =
    marked c.args.one (128 - c.args.first) (127 - c.args.last) (omega arith) (omega arith) (omega arith) l c.args.w p
