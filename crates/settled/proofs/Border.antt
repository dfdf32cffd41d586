-- The border: each number that crosses it, and each buffer, is equated with a definition.
use Rattle.settled.specs.Settled.{Settles}
use Rattle.settled.proofs.Laws.{same}
use Rattle.lef.specs.contracts.lef_read as of-lef-read
use Rattle.lef.proofs.lef_read.Reads as of-lef-read-says
use Rattle.lef.specs.contracts.lef_check as of-lef-check
use Rattle.lef.proofs.lef_check.Reads as of-lef-check-says
use Rattle.lef.specs.contracts.lef_write as of-lef-write
use Rattle.lef.proofs.lef_write.Reads as of-lef-write-says
use Rattle.lef.specs.contracts.lef_token as of-lef-token
use Rattle.lef.proofs.lef_token.Reads as of-lef-token-says
use Rattle.lef.specs.contracts.lef_in_force as of-lef-in-force
use Rattle.lef.proofs.lef_in_force.Reads as of-lef-in-force-says
use Rattle.lef.specs.contracts.lef_owners as of-lef-owners
use Rattle.lef.proofs.lef_owners.Reads as of-lef-owners-says
use Rattle.lef.specs.contracts.lef_name as of-lef-name
use Rattle.lef.proofs.lef_name.Reads as of-lef-name-says
use Rattle.lef.specs.contracts.lef_index as of-lef-index
use Rattle.lef.proofs.lef_index.Reads as of-lef-index-says
use Rattle.lef.specs.contracts.lef_index_check as of-lef-index-check
use Rattle.lef.proofs.lef_index_check.Reads as of-lef-index-check-says
use Rattle.lef.specs.contracts.lef_find as of-lef-find
use Rattle.lef.proofs.lef_find.Reads as of-lef-find-says
use Rattle.lef.specs.contracts.lef_find_many as of-lef-find-many
use Rattle.lef.proofs.lef_find_many.Reads as of-lef-find-many-says

pub lef_read : Settles of-lef-read.ended of-lef-read-says.Learnt
lef_read κs i a b v w p q = (same p.0 q.0, λ i. (tt, (same p.1.1.1 q.1.1.1 i, (same p.1.0 q.1.0 i, (same p.1.1.0 q.1.1.0 i, tt)))))

pub lef_check : Settles of-lef-check.ended of-lef-check-says.Learnt
lef_check κs i a b v w p q = (same p.0 q.0, λ i. (tt, (tt, (same p.1.0 q.1.0 i, (same p.1.1 q.1.1 i, tt)))))

pub lef_write : Settles of-lef-write.ended of-lef-write-says.Learnt
lef_write κs i a b v w p q = (same p.0 q.0, λ i. (tt, (tt, (same p.1.1.1 q.1.1.1 i, (same p.1.0 q.1.0 i, (same p.1.1.0 q.1.1.0 i, tt))))))

pub lef_token : Settles of-lef-token.ended of-lef-token-says.Learnt
lef_token κs i a b v w p q = (same p.0 q.0, λ i. (tt, (tt, (same p.1.0 q.1.0 i, (same p.1.1.0 q.1.1.0 i, (same p.1.1.1.0 q.1.1.1.0 i, (same p.1.1.1.1.0 q.1.1.1.1.0 i, (same p.1.1.1.1.1 q.1.1.1.1.1 i, tt))))))))

pub lef_in_force : Settles of-lef-in-force.ended of-lef-in-force-says.Learnt
lef_in_force κs i a b v w p q = (same p.0 q.0, λ i. (tt, (tt, (tt, (tt, (same p.1.0 q.1.0 i, (same p.1.1.0 q.1.1.0 i, (same p.1.1.1 q.1.1.1 i, tt))))))))

pub lef_owners : Settles of-lef-owners.ended of-lef-owners-says.Learnt
lef_owners κs i a b v w p q = (same p.0 q.0, λ i. (tt, (tt, (same p.1.0 q.1.0 i, (same p.1.1.0 q.1.1.0 i, (same p.1.1.1 q.1.1.1 i, tt))))))

pub lef_name : Settles of-lef-name.ended of-lef-name-says.Learnt
lef_name κs i a b v w p q = (same p.0 q.0, λ i. (tt, (tt, (tt, (same p.1.0 q.1.0 i, (same p.1.1 q.1.1 i, tt))))))

pub lef_index : Settles of-lef-index.ended of-lef-index-says.Learnt
lef_index κs i a b v w p q = (same p.0 q.0, λ i. (tt, (tt, (same p.1.1.1 q.1.1.1 i, (same p.1.0 q.1.0 i, (same p.1.1.0 q.1.1.0 i, tt))))))

pub lef_index_check : Settles of-lef-index-check.ended of-lef-index-check-says.Learnt
lef_index_check κs i a b v w p q = (same p.0 q.0, λ i. (tt, (tt, (tt, (same p.1.0 q.1.0 i, (same p.1.1 q.1.1 i, tt))))))

pub lef_find : Settles of-lef-find.ended of-lef-find-says.Learnt
lef_find κs i a b v w p q = (same p.0 q.0, λ i. (tt, (tt, (tt, (tt, (tt, (same p.1.0 q.1.0 i, (same p.1.1.0 q.1.1.0 i, (same p.1.1.1 q.1.1.1 i, tt)))))))))

pub lef_find_many : Settles of-lef-find-many.ended of-lef-find-many-says.Learnt
lef_find_many κs i a b v w p q = (same p.0 q.0, λ i. (tt, (tt, (tt, (tt, (tt, (same p.1.1.1 q.1.1.1 i, (same p.1.0 q.1.0 i, (same p.1.1.0 q.1.1.0 i, tt)))))))))
