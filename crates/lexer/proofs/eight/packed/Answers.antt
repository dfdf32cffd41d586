-- `eight::packed` meets its contract: the number is the sum of the bytes, each at its place.
use Rattle.std.proofs.Common.{arith}
use Rattle.lexer.proofs.EightBytes.{sum, all_bytes}
use Rattle.lexer.proofs.eight.packed.Goals as goal

pub returns : goal.returns
returns c = record {
  long = c.told-bytes;
  bytes = all_bytes c.args.bytes.now c.told-bytes c.fits-bytes;
  packs = omega (arith, sum c.args.bytes.now c.told-bytes);
}
