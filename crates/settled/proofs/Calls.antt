-- The calls on texts, record files and indexes: each answer and each buffer is equated with a definition.
-- `name` settles the bytes of the name, and not where they lie: `lef_name` settles that.
use mathlib.Core.Path.{refl}
use Rattle.settled.specs.Settled.{Settles, SettlesSeen}
use Rattle.settled.proofs.Laws.{same}
use Rattle.reader.specs.contracts.reading.read as of-read
use Rattle.reader.proofs.reading.read.Reads as of-read-says
use Rattle.checker.specs.contracts.check as of-check
use Rattle.checker.proofs.check.Reads as of-check-says
use Rattle.writer.specs.contracts.write as of-write
use Rattle.writer.proofs.write.Reads as of-write-says
use Rattle.lookup.specs.contracts.in_force as of-in-force
use Rattle.lookup.proofs.in_force.Reads as of-in-force-says
use Rattle.lookup.specs.contracts.owners as of-owners
use Rattle.lookup.proofs.owners.Reads as of-owners-says
use Rattle.lookup.specs.contracts.name as of-name
use Rattle.lookup.proofs.name.Reads as of-name-says
use Rattle.indexer.specs.contracts.build as of-build
use Rattle.indexer.proofs.build.Reads as of-build-says
use Rattle.indexer.specs.contracts.check as of-check-index
use Rattle.indexer.proofs.check.Reads as of-check-index-says
use Rattle.indexer.specs.contracts.find as of-find
use Rattle.indexer.proofs.find.Reads as of-find-says
use Rattle.indexer.specs.contracts.find_many as of-find-many
use Rattle.indexer.proofs.find_many.Reads as of-find-many-says

pub read : Settles of-read.ended of-read-says.Learnt
read κs i a b v w p q = (same p.0 q.0, λ i. (tt, (same p.1 q.1 i, tt)))

pub check : Settles of-check.ended of-check-says.Learnt
check κs i a b v w p q = (same p q, refl)

pub write : Settles of-write.ended of-write-says.Learnt
write κs i a b v w p q = (same p.0 q.0, λ i. (tt, (tt, (same p.1 q.1 i, tt))))

pub in_force : Settles of-in-force.ended of-in-force-says.Learnt
in_force κs i a b v w p q = (same p q, refl)

pub owners : Settles of-owners.ended of-owners-says.Learnt
owners κs i a b v w p q = (same p q, refl)

pub name : SettlesSeen of-name.ended (λ κs r. r.now) of-name-says.Learnt
name κs i a b v w p q = (same p q, refl)

pub build : Settles of-build.ended of-build-says.Learnt
build κs i a b v w p q = (same p.0 q.0, λ i. (tt, (tt, (same p.1 q.1 i, tt))))

pub check_index : Settles of-check-index.ended of-check-index-says.Learnt
check_index κs i a b v w p q = (same p q, refl)

pub find : Settles of-find.ended of-find-says.Learnt
find κs i a b v w p q = (same p q, refl)

pub find_many : Settles of-find-many.ended of-find-many-says.Learnt
find_many κs i a b v w p q = (same p.0 q.0, λ i. (tt, (tt, (tt, (tt, (tt, (same p.1 q.1 i, tt)))))))
