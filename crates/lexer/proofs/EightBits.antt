-- An operation on eight bytes as one number acts on each byte by itself, as long as no byte passes 255.
use Prim.Native.Nat.{ℕ, zero, suc, ◌+◌, ◌-◌, ◌*◌, ◌^◌, ◌<◌}
use mathlib.Core.Path.{◌≡◌, refl, sym, ap, ap₂, ◌∙◌}
use mathlib.Core.List.{List, [], ◌∷◌}
use native.Mathlib.Nat.{mul-add, mul_assoc, mul-one}
use native.Mathlib.Omega.{arith}
use lib.Bits.{bit_and, bit_or, bit_xor, and_block, or_block, xor_block}
use lib.ListN.{length}
use Rattle.lexer.specs.Eight.{each, Bytes}

-- f makes a byte of each byte
abbrev pub Small : (ℕ → ℕ) → Type 0
Small f = (b : ℕ) → b < 256 → f b < 256

module _ (op : ℕ → ℕ → ℕ) (none : op 0 0 ≡ 0)
    (block : (k a b r s : ℕ) → r < 2 ^ k → s < 2 ^ k → op (a * 2 ^ k + r) (b * 2 ^ k + s) ≡ op a b * 2 ^ k + op r s) where
  by_byte : (f g : ℕ → ℕ) → Small f → Small g → (l : List ℕ) → Bytes l → op (each f l) (each g l) ≡ each (λ b. op (f b) (g b)) l
  unfolding each
  by_byte f g u v [] h = none
  by_byte f g u v (b ∷ l) h =
      block 8 (each f l) (each g l) (f b) (g b) (u b h.0) (v b h.0)
      ∙ ap (λ n. n * 256 + op (f b) (g b)) (by_byte f g u v l h.1)

pub ands : (f g : ℕ → ℕ) → Small f → Small g → (l : List ℕ) → Bytes l → bit_and (each f l) (each g l) ≡ each (λ b. bit_and (f b) (g b)) l
ands = by_byte bit_and refl and_block

pub ors : (f g : ℕ → ℕ) → Small f → Small g → (l : List ℕ) → Bytes l → bit_or (each f l) (each g l) ≡ each (λ b. bit_or (f b) (g b)) l
ors = by_byte bit_or refl or_block

pub xors : (f g : ℕ → ℕ) → Small f → Small g → (l : List ℕ) → Bytes l → bit_xor (each f l) (each g l) ≡ each (λ b. bit_xor (f b) (g b)) l
xors = by_byte bit_xor refl xor_block

pub sums : (f g : ℕ → ℕ) (l : List ℕ) → each f l + each g l ≡ each (λ b. f b + g b) l
unfolding each
sums f g [] = refl
sums f g (b ∷ l) = omega (arith, sums f g l)

-- what is the same of each byte is the same of all
pub equal : (f g : ℕ → ℕ) → ((b : ℕ) → b < 256 → f b ≡ g b) → (l : List ℕ) → Bytes l → each f l ≡ each g l
unfolding each
equal f g e [] h = refl
equal f g e (b ∷ l) h = ap₂ (λ m n. m * 256 + n) (equal f g e l h.1) (e b h.0)

-- 1 in each of so many bytes
abbrev ones : ℕ → ℕ
ones zero = 0
ones (suc n) = ones n * 256 + 1

repeated : (k : ℕ) (l : List ℕ) → each (λ b. k) l ≡ k * ones (length l)
unfolding each
repeated k [] = omega arith
repeated k (b ∷ l) =
    ap (λ n. n * 256 + k) (repeated k l)
    ∙ ap₂ ◌+◌ (mul_assoc k (ones (length l)) 256) (sym (mul-one k))
    ∙ sym (mul-add k (ones (length l) * 256) 1)

-- the same byte eight times
pub all : (k : ℕ) (l : List ℕ) → length l ≡ 8 → each (λ b. k) l ≡ k * 0x0101010101010101
all k l e = repeated k l ∙ ap (λ n. k * ones n) e

-- the bits of eight bytes turned
pub turned : (f : ℕ → ℕ) → Small f → (l : List ℕ) → Bytes l → length l ≡ 8 → 18446744073709551615 - each f l ≡ each (λ b. 255 - f b) l
turned f u l h e =
    let whole : each f l + each (λ b. 255 - f b) l ≡ 255 * 0x0101010101010101 =
    sums f (λ b. 255 - f b) l ∙ equal (λ b. f b + (255 - f b)) (λ b. 255) (λ b s. omega (arith, u b s)) l h ∙ all 255 l e in
    omega arith
