-- The refusals by number: each answer is equated with a definition.
use mathlib.Core.Path.{refl}
use Rattle.settled.specs.Settled.{Settles}
use Rattle.settled.proofs.Laws.{same}
use Rattle.refusal.specs.contracts.Refusal.done as of-done
use Rattle.refusal.proofs.Refusal.done.Reads as of-done-says
use Rattle.refusal.specs.contracts.Refusal.too_long as of-too-long
use Rattle.refusal.proofs.Refusal.too_long.Reads as of-too-long-says
use Rattle.refusal.specs.contracts.Refusal.not_ascii as of-not-ascii
use Rattle.refusal.proofs.Refusal.not_ascii.Reads as of-not-ascii-says
use Rattle.refusal.specs.contracts.Refusal.no_token as of-no-token
use Rattle.refusal.proofs.Refusal.no_token.Reads as of-no-token-says
use Rattle.refusal.specs.contracts.Refusal.wrong_kind as of-wrong-kind
use Rattle.refusal.proofs.Refusal.wrong_kind.Reads as of-wrong-kind-says
use Rattle.refusal.specs.contracts.Refusal.not_key as of-not-key
use Rattle.refusal.proofs.Refusal.not_key.Reads as of-not-key-says
use Rattle.refusal.specs.contracts.Refusal.not_allowed as of-not-allowed
use Rattle.refusal.proofs.Refusal.not_allowed.Reads as of-not-allowed-says
use Rattle.refusal.specs.contracts.Refusal.another_word as of-another-word
use Rattle.refusal.proofs.Refusal.another_word.Reads as of-another-word-says
use Rattle.refusal.specs.contracts.Refusal.not_supported as of-not-supported
use Rattle.refusal.proofs.Refusal.not_supported.Reads as of-not-supported-says
use Rattle.refusal.specs.contracts.Refusal.not_numeral as of-not-numeral
use Rattle.refusal.proofs.Refusal.not_numeral.Reads as of-not-numeral-says
use Rattle.refusal.specs.contracts.Refusal.site_lacks as of-site-lacks
use Rattle.refusal.proofs.Refusal.site_lacks.Reads as of-site-lacks-says
use Rattle.refusal.specs.contracts.Refusal.record_room as of-record-room
use Rattle.refusal.proofs.Refusal.record_room.Reads as of-record-room-says
use Rattle.refusal.specs.contracts.Refusal.text_room as of-text-room
use Rattle.refusal.proofs.Refusal.text_room.Reads as of-text-room-says
use Rattle.refusal.specs.contracts.Refusal.not_whole as of-not-whole
use Rattle.refusal.proofs.Refusal.not_whole.Reads as of-not-whole-says
use Rattle.refusal.specs.contracts.Refusal.wrong_record as of-wrong-record
use Rattle.refusal.proofs.Refusal.wrong_record.Reads as of-wrong-record-says
use Rattle.refusal.specs.contracts.Refusal.lacking as of-lacking
use Rattle.refusal.proofs.Refusal.lacking.Reads as of-lacking-says
use Rattle.refusal.specs.contracts.Refusal.index_differs as of-index-differs
use Rattle.refusal.proofs.Refusal.index_differs.Reads as of-index-differs-says

pub done : Settles of-done.ended of-done-says.Learnt
done κs i a b v w p q = (same p q, refl)

pub too_long : Settles of-too-long.ended of-too-long-says.Learnt
too_long κs i a b v w p q = (same p q, refl)

pub not_ascii : Settles of-not-ascii.ended of-not-ascii-says.Learnt
not_ascii κs i a b v w p q = (same p q, refl)

pub no_token : Settles of-no-token.ended of-no-token-says.Learnt
no_token κs i a b v w p q = (same p q, refl)

pub wrong_kind : Settles of-wrong-kind.ended of-wrong-kind-says.Learnt
wrong_kind κs i a b v w p q = (same p q, refl)

pub not_key : Settles of-not-key.ended of-not-key-says.Learnt
not_key κs i a b v w p q = (same p q, refl)

pub not_allowed : Settles of-not-allowed.ended of-not-allowed-says.Learnt
not_allowed κs i a b v w p q = (same p q, refl)

pub another_word : Settles of-another-word.ended of-another-word-says.Learnt
another_word κs i a b v w p q = (same p q, refl)

pub not_supported : Settles of-not-supported.ended of-not-supported-says.Learnt
not_supported κs i a b v w p q = (same p q, refl)

pub not_numeral : Settles of-not-numeral.ended of-not-numeral-says.Learnt
not_numeral κs i a b v w p q = (same p q, refl)

pub site_lacks : Settles of-site-lacks.ended of-site-lacks-says.Learnt
site_lacks κs i a b v w p q = (same p q, refl)

pub record_room : Settles of-record-room.ended of-record-room-says.Learnt
record_room κs i a b v w p q = (same p q, refl)

pub text_room : Settles of-text-room.ended of-text-room-says.Learnt
text_room κs i a b v w p q = (same p q, refl)

pub not_whole : Settles of-not-whole.ended of-not-whole-says.Learnt
not_whole κs i a b v w p q = (same p q, refl)

pub wrong_record : Settles of-wrong-record.ended of-wrong-record-says.Learnt
wrong_record κs i a b v w p q = (same p q, refl)

pub lacking : Settles of-lacking.ended of-lacking-says.Learnt
lacking κs i a b v w p q = (same p q, refl)

pub index_differs : Settles of-index-differs.ended of-index-differs-says.Learnt
index_differs κs i a b v w p q = (same p q, refl)
