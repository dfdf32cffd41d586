-- What is written: tokens, and the blanks between them.
use Rattle.std.specs.Prelude.{ℕ, zero, suc, Bool, true, false, ◌&&◌, List, [], ◌∷◌, ◌++◌, replicate}

-- a token as it is written: its kind and its bytes
pub record Said : Type 0 where
  pub kind : ℕ
  pub bytes : List ℕ

abbrev pub said : ℕ → List ℕ → Said
said k s = record { kind = k; bytes = s }

pub data Piece : Type 0 where
  spaces : ℕ → Piece  -- so many
  newline : Piece
  token : Said → Piece

-- the bytes of what is written
unfoldable pub text : List Piece → List ℕ
text [] = []
text (spaces n ∷ ps) = replicate n 32 ++ text ps
text (newline ∷ ps) = 10 ∷ text ps
text (token t ∷ ps) = t.bytes ++ text ps

-- its tokens
unfoldable pub tokens : List Piece → List Said
tokens [] = []
tokens (spaces n ∷ ps) = tokens ps
tokens (newline ∷ ps) = tokens ps
tokens (token t ∷ ps) = t ∷ tokens ps

-- a blank comes next, or nothing does
unfoldable pub parted : List Piece → Bool
parted [] = true
parted (spaces zero ∷ ps) = parted ps
parted (spaces (suc n) ∷ ps) = true
parted (newline ∷ ps) = true
parted (token t ∷ ps) = false

-- a blank stands between each two tokens
unfoldable pub apart : List Piece → Bool
apart [] = true
apart (spaces n ∷ ps) = apart ps
apart (newline ∷ ps) = apart ps
apart (token t ∷ ps) = parted ps && apart ps
