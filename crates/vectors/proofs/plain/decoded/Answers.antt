-- `plain::decoded` meets its contract: what `bytes` put at the front is what is lent back.
use Rattle.vectors.specs.Plain.{meant}
use Rattle.vectors.proofs.Putting.{taken}
use Rattle.vectors.proofs.plain.decoded.Goals as goal

pub returns : goal.returns
returns c =
    rw (c.bytes-n.ensures.value, c.bytes-n.ensures.out_after) (taken c.args.room.now (meant c.args.written.now))
