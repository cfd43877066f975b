-- A copy, a move or an expunge that was replied claims nothing.
use Rattle.mail_ops.proofs.Common.{◌≡◌, ℕ, false, List, Option, refl, History, Faults, Uid, Did, Progress, Reply, StoreValue, copy_claims, expunge_claims, move_claims, CopiesOn, ExpungesOn, MovesOn, CopyStage, ExpungeStage, MoveStage, fall}
use Rattle.mdbox_base.specs.declared.progress.Progress.TheVariants as progress
use Rattle.mdbox_base.specs.declared.replies.Reply.TheVariants as reply
use Rattle.task_claims.specs.Claims.{ClaimsNothing}
use Rattle.task_claims.proofs.RestLemmas.{none_claimed_of}
use Rattle.mail_ops.specs.Copy.{copy_dues}
use Rattle.mail_ops.specs.Expunging.{expunge_dues}
use Rattle.mail_ops.specs.Moving.{move_dues}
use Rattle.mail_ops.specs.declared.copy.CopyStage.TheVariants as copy_stage
use Rattle.mail_ops.specs.declared.expunging.ExpungeStage.TheVariants as expunge_stage
use Rattle.mail_ops.specs.declared.moving.MoveStage.TheVariants as move_stage
use Rattle.mail_ops.proofs.ToldLemmas.{more_is}

pub copy_ended : {D : Type 0} → (name : List ℕ) (uid : Uid) (target : List ℕ) (now next : CopyStage) (answer : Progress) (how : Did) (old new : StoreValue D) (before after : Option History) (began then : Faults) (given : Reply) → CopiesOn name uid target now next answer how old new before after began then → answer ≡ progress.Done given → new.stopped ≡ false → ClaimsNothing (copy_claims next)
copy_ended name uid target now copy_stage.First answer how old new before after began then given on e runs = none_claimed_of (copy_dues copy_stage.First) (λ u. refl)
copy_ended name uid target now next progress.More how old new before after began then given on e runs = absurd (more_is given e)
copy_ended name uid target (copy_stage.Adding held source) (copy_stage.Adding still same) (progress.Done (reply.Refused why)) how old new before after began then given on e runs = absurd (fall new.stopped on.3.fell.stopped runs)
copy_ended name uid target (copy_stage.BeginningAgain held) (copy_stage.BeginningAgain still) (progress.Done (reply.Refused why)) how old new before after began then given on e runs = absurd (fall new.stopped on.3.stopped runs)
copy_ended name uid target (copy_stage.GivingBack held why) (copy_stage.GivingBack still cause) (progress.Done (reply.Refused told)) how old new before after began then given on e runs = absurd (fall new.stopped on.4.stopped runs)
copy_ended name uid target now next answer how old new before after began then given on e runs = absurd on

pub expunge_ended : {D : Type 0} → (name : List ℕ) (uid : Uid) (now next : ExpungeStage) (answer : Progress) (how : Did) (old new : StoreValue D) (before after : Option History) (began then : Faults) (given : Reply) → ExpungesOn name uid now next answer how old new before after began then → answer ≡ progress.Done given → new.stopped ≡ false → ClaimsNothing (expunge_claims next)
expunge_ended name uid now expunge_stage.First answer how old new before after began then given on e runs = none_claimed_of (expunge_dues expunge_stage.First) (λ u. refl)
expunge_ended name uid now next progress.More how old new before after began then given on e runs = absurd (more_is given e)
expunge_ended name uid (expunge_stage.Owing owed) (expunge_stage.Owing still) (progress.Done (reply.Refused why)) how old new before after began then given on e runs = absurd (fall new.stopped on.3.stopped runs)
expunge_ended name uid now next answer how old new before after began then given on e runs = absurd on

pub move_ended : {D : Type 0} → (name : List ℕ) (uid : Uid) (target : List ℕ) (now next : MoveStage) (answer : Progress) (how : Did) (old new : StoreValue D) (before after : Option History) (began then : Faults) (given : Reply) → MovesOn name uid target now next answer how old new before after began then → answer ≡ progress.Done given → new.stopped ≡ false → ClaimsNothing (move_claims next)
move_ended name uid target now move_stage.First answer how old new before after began then given on e runs = none_claimed_of (move_dues move_stage.First) (λ u. refl)
move_ended name uid target now next progress.More how old new before after began then given on e runs = absurd (more_is given e)
move_ended name uid target (move_stage.Adding held source) (move_stage.Adding still same) (progress.Done (reply.Refused why)) how old new before after began then given on e runs = absurd (fall new.stopped on.3.fell.stopped runs)
move_ended name uid target (move_stage.BeginningAgain held) (move_stage.BeginningAgain still) (progress.Done (reply.Refused why)) how old new before after began then given on e runs = absurd (fall new.stopped on.3.stopped runs)
move_ended name uid target (move_stage.GivingBack held why) (move_stage.GivingBack still cause) (progress.Done (reply.Refused told)) how old new before after began then given on e runs = absurd (fall new.stopped on.4.stopped runs)
move_ended name uid target (move_stage.Removing held copied source) (move_stage.Removing still same from) (progress.Done (reply.Refused why)) how old new before after began then given on e runs = absurd (fall new.stopped on.4.fell.stopped runs)
move_ended name uid target (move_stage.Owing owed copied) (move_stage.Owing still same) (progress.Done (reply.Refused why)) how old new before after began then given on e runs = absurd (fall new.stopped on.4.stopped runs)
move_ended name uid target now next answer how old new before after began then given on e runs = absurd on
