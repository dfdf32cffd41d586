-- WHAT IT IS FOR A CONTRACT TO SETTLE A CALL: for the same inputs, any two outcomes that meet the contract are equal. An outcome is the
-- answer, and the last value of everything that was lent to be changed.
use Rattle.std.specs.Prelude.{◌≡◌}
use contract.Lifetimes.{Lfts}
use denote.Triple.Entry.{Args, Res}
use denote.Triple.Clauses.{Ended, Lasts, AtExit, at_exit}

-- a contract of a call T, as its callers learn it: what it says of the inputs, the answer, and what was lent as it is at exit. The
-- toolchain reads it off the `ensures` in the source, under the name `Learnt`.
abbrev pub Contract : Ended → Type 1
Contract T = (κs : Lfts T.signature.lifetimes) → Args T.signature κs → Res T.signature κs → AtExit T κs → Type 0

-- the answers a and b, and the last values v and w
abbrev pub Settles : (T : Ended) → Contract T → Type 0
Settles T Meets =
    (κs : Lfts T.signature.lifetimes) (inputs : Args T.signature κs) (a b : Res T.signature κs) (v w : Lasts T κs inputs)
    → Meets κs inputs a (at_exit T κs inputs v) → Meets κs inputs b (at_exit T κs inputs w) → (a ≡ b) × (v ≡ w)

-- the same of an answer of which only a part is looked at, as the bytes of a slice and not where it lies
abbrev pub SettlesSeen : (T : Ended) {S : Type 0} → ((κs : Lfts T.signature.lifetimes) → Res T.signature κs → S) → Contract T → Type 0
SettlesSeen T seen Meets =
    (κs : Lfts T.signature.lifetimes) (inputs : Args T.signature κs) (a b : Res T.signature κs) (v w : Lasts T κs inputs)
    → Meets κs inputs a (at_exit T κs inputs v) → Meets κs inputs b (at_exit T κs inputs w) → (seen κs a ≡ seen κs b) × (v ≡ w)
