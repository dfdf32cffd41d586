-- Inner machinery, which nobody has to believe: what the code's open blocks stand for, the innermost first.
-- The image `blocks_of` forgets what the array holds beyond the depth, and where a block's name stands (its bytes alone count). A contract that
-- equates it leaves these open.
use Rattle.std.specs.Prelude.{ℕ, zero, suc, ◌≤◌, ◌≡◌, List, [], ◌∷◌, length, get_or}
use Rattle.grammar.specs.Grammar.{Block, Library, Units, Site, Symmetry, Macro, Pin, Port, Obs, Options, Layer, Rect, Polygon, Path, Move, stay, enter, named, version}
use Rattle.grammar.specs.Engine.{Frame as Opened}
use Rattle.grammar.specs.Turns as T
use Rattle.parser.specs.declared.open.Frame.{Frame}
use Rattle.parser.specs.Kept.{frame_of}
use Rattle.reader.specs.declared.open.Open.{Open}
use Rattle.reader.specs.declared.open.State.{State}

-- a block that starts nowhere, has no name and lacks nothing
abbrev pub nothing : ℕ → Frame
nothing b = record { block = b; at = 0; title = 0; len = 0; lacks = 0 }

-- the block at a depth; past the array's end none is meant
abbrev pub frame_in : List ℕ → ℕ → List Frame → Opened ℕ
frame_in s d o = frame_of s (get_or o d (nothing 0))

-- so many of them, the last first
unfoldable pub frames_in : List ℕ → ℕ → List Frame → List (Opened ℕ)
frames_in s zero o = []
frames_in s (suc d) o = frame_in s d o ∷ frames_in s d o

abbrev pub blocks_of : List ℕ → Open → List Frame → T.State ℕ
blocks_of s q o = T.state q.version (frame_of s q.inner ∷ frames_in s q.depth o)

abbrev pub state_of : List ℕ → State → T.State ℕ
state_of s st = blocks_of s st.open st.outer

-- WHAT A RECORD DOES

-- it opens a block
abbrev pub Pushes : Move → Type 0
Pushes stay = ⊥
Pushes (enter b ks) = Unit {0}
Pushes (named b ks) = Unit {0}
Pushes version = ⊥

-- the block that it opens is not the library
abbrev pub Inside : Move → Type 0
Inside stay = Unit {0}
Inside (enter b ks) = b ≡ Library → ⊥
Inside (named b ks) = b ≡ Library → ⊥
Inside version = Unit {0}

-- the block that it opens, where it starts at p and has the name `label`
abbrev pub Opens : Move → ℕ → List ℕ → Opened ℕ → Type 0
Opens stay p label f = Unit {0}
Opens (enter b ks) p label f = f ≡ T.opened b p [] ks
Opens (named b ks) p label f = f ≡ T.opened b p label ks
Opens version p label f = Unit {0}

-- HOW DEEP BLOCKS STAND

-- how many blocks can be around a block
abbrev pub rank : Block → ℕ
rank Library = 0
rank Units = 1
rank Site = 1
rank Symmetry = 2
rank Macro = 1
rank Pin = 2
rank Port = 3
rank Obs = 2
rank Options = 4
rank Layer = 4
rank Rect = 5
rank Polygon = 5
rank Path = 5

-- no block has more around it than it can have
abbrev pub Ranked : List (Opened ℕ) → Type 0
Ranked [] = Unit {0}
Ranked (f ∷ fs) = (length fs ≤ rank f.block) × Ranked fs
