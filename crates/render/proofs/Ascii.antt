-- A text of tokens that can be written passes the screen, if it is not too long: no byte of it is above 127.
use Prim.Native.Nat.{ℕ, zero, suc, ◌≤◌, ◌<◌}
use mathlib.Core.Path.{◌≡◌, refl, ◌∙◌}
use mathlib.Core.Bool.{true}
use mathlib.Core.List.{List, [], ◌∷◌, append-nil}
use native.Mathlib.Nat.{zero-add}
use native.Mathlib.Omega.{arith}
use borrow.Author.Tests.{le-ltb, le-leb}
use lib.ListN.{length, get_or, replicate}
use Rattle.std.specs.Prelude.{Ok}
use Rattle.lexer.specs.Bytes.{is_ascii}
use Rattle.lexer.specs.Run.{run}
use Rattle.lexer.specs.Screen.{limit, screened}
use Rattle.lexer.proofs.Cleared as Cleared
use Rattle.word.proofs.Words.{both}
use Rattle.render.specs.Pieces.{Said, Piece, spaces, newline, token, text, tokens}
use Rattle.render.specs.Spelt.{all, is_token, is_spelt, all_spelt}
use Rattle.render.proofs.All.{all_append}
use Rattle.render.proofs.Bytes.{run_over}

spelt_ascii : (t : Said) → is_spelt t ≡ true → all is_ascii t.bytes ≡ true
unfolding is_spelt
spelt_ascii t e = (both (is_token t.kind t.bytes) (all is_ascii t.bytes) e).1

spaces_ascii : (n : ℕ) → all is_ascii (replicate n 32) ≡ true
unfolding all
spaces_ascii zero = refl
spaces_ascii (suc n) = spaces_ascii n

pub ascii_text : (ps : List Piece) → all_spelt (tokens ps) ≡ true → all is_ascii (text ps) ≡ true
unfolding all all_spelt text tokens
ascii_text [] z = refl
ascii_text (spaces n ∷ ps) z = all_append is_ascii (replicate n 32) (text ps) (spaces_ascii n) (ascii_text ps z)
ascii_text (newline ∷ ps) z = ascii_text ps z
ascii_text (token t ∷ ps) z =
    let (x, y) = both (is_spelt t) (all_spelt (tokens ps)) z in
    all_append is_ascii t.bytes (text ps) (spelt_ascii t x) (ascii_text ps y)

-- a text with no byte above 127 that is not too long passes
ascii_clear : (s : List ℕ) → all is_ascii s ≡ true → length s ≤ limit → screened s ≡ Ok tt
unfolding screened run
ascii_clear s a h =
    let e : run is_ascii s ≡ length s = rw append-nil at (run_over is_ascii s [] a) ∙ omega arith in
    rw (e, zero-add, le-ltb limit (length s) h, le-ltb (length s) (length s) (omega arith))

pub clear : (ps : List Piece) → all_spelt (tokens ps) ≡ true → length (text ps) ≤ limit → screened (text ps) ≡ Ok tt
clear ps z h = ascii_clear (text ps) (ascii_text ps z) h

-- and no byte of a text that passes is above 127
each_low : (s : List ℕ) → ((k : ℕ) → k < length s → get_or s k 0 ≤ 127) → all is_ascii s ≡ true
unfolding all
each_low [] f = refl
each_low (b ∷ s) f = rw (le-leb b 127 (f 0 (omega arith))) (each_low s (λ k h. f (suc k) (omega arith)))

pub clear_ascii : (s : List ℕ) → screened s ≡ Ok tt → all is_ascii s ≡ true
clear_ascii s h = each_low s (Cleared.clear_ascii s h)
