-- `lines::say::rest_in` meets its contract: by the byte.
use mathlib.Core.Path.{refl}
use native.Mathlib.Omega.{arith}
use Rattle.render.specs.Says.{says}
use Rattle.lines.proofs.say.rest_in.Goals as goal

pub returns-then-it-lt-NO_NAME : goal.returns-then-it-lt-NO_NAME
unfolding says
returns-then-it-lt-NO_NAME c =
    record { low = λ l s label r. refl; high = λ h s label r e f. absurd (omega (arith, h, c.if-it-lt-NO_NAME.true)) }

pub returns : goal.returns
returns c =
    record { low = λ l s label r. absurd (omega (arith, l, c.if-it-lt-NO_NAME.false)); high = λ h. c.second_in.ensures }
