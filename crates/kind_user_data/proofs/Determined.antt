-- The contract of each public function determines its result: `zero` and `read` of each kind, and `head_bytes` of kind 4.
-- Assumes nothing.
use mathlib.Core.Path.{sym, ◌∙◌}
use Rattle.bits.proofs.Determined.{Determines, told}
use Rattle.kind_user_data.proofs.registered.Registered.zero.Kinds as registered-zero-kinds
use Rattle.kind_user_data.proofs.registered.Registered.zero.Reads as registered-zero-reads
use Rattle.kind_user_data.proofs.registered.Registered.head_bytes.Kinds as head-bytes-kinds
use Rattle.kind_user_data.proofs.registered.Registered.head_bytes.Reads as head-bytes-reads
use Rattle.kind_user_data.proofs.registered.read.Kinds as registered-kinds
use Rattle.kind_user_data.proofs.registered.read.Reads as registered-reads
use Rattle.kind_user_data.proofs.unregistered.Unregistered.zero.Kinds as unregistered-zero-kinds
use Rattle.kind_user_data.proofs.unregistered.Unregistered.zero.Reads as unregistered-zero-reads
use Rattle.kind_user_data.proofs.unregistered.read.Kinds as unregistered-kinds
use Rattle.kind_user_data.proofs.unregistered.read.Reads as unregistered-reads

pub registered-zero-determined : Determines 0 registered-zero-kinds.ps registered-zero-kinds.r registered-zero-reads.Post
registered-zero-determined κs a x y s t p q = p ∙ sym q

pub head-bytes-determined : Determines 0 head-bytes-kinds.ps head-bytes-kinds.r head-bytes-reads.Post
head-bytes-determined κs a x y s t p q = p ∙ sym q

pub registered-determined : Determines 1 registered-kinds.ps registered-kinds.r registered-reads.Post
registered-determined κs a x y s t p q = told x y (p ∙ sym q)

pub unregistered-zero-determined : Determines 0 unregistered-zero-kinds.ps unregistered-zero-kinds.r unregistered-zero-reads.Post
unregistered-zero-determined κs a x y s t p q = p ∙ sym q

pub unregistered-determined : Determines 1 unregistered-kinds.ps unregistered-kinds.r unregistered-reads.Post
unregistered-determined κs a x y s t p q = told x y (p ∙ sym q)
