-- `Record::of_bytes` meets its contract: each field is the number that stands at the field's offset.
use mathlib.Core.Path.{◌≡◌}
use lib.ListN.{get_or}
use Rattle.std.proofs.Common.{rules}
use Rattle.record.specs.Bytes.{decoded}
use Rattle.record.proofs.Record.of_bytes.Goals as goal

pub returns : goal.returns
unfolding decoded
returns c i =
    let d = c in
    let bytes = d.args.bytes.now in
    let kind : d.unwrap_or.result ≡ get_or bytes 0 0 = search rules in
    let code : d.unwrap_or-2.result ≡ get_or bytes 1 0 = search rules in
    record {
      kind = kind i;
      code = code i;
      spare = d.number.ensures.eq i;
      at = d.word32.ensures.eq i;
      owner = d.word32-2.ensures.eq i;
      name = c.word32-3.ensures.eq i;
      len = c.word32-4.ensures.eq i;
      x = c.word64.ensures i;
      y = c.word64-2.ensures i;
    }
