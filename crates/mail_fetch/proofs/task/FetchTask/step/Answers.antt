use Rattle.mail_fetch.proofs.Common.{◌||◌, Bool, refl, sym, ◌∙◌, ap, subst, IsReadyToFetch, HasPieceLeft, FetchStage}
use Rattle.mdbox_base.specs.declared.progress.Did.TheVariants as did
use Rattle.mdbox_base.specs.declared.progress.Progress.TheVariants as progress
use Rattle.mdbox_base.specs.declared.replies.Refusal.TheVariants as refusal
use Rattle.mdbox_base.specs.declared.replies.Reply.TheVariants as reply
use Rattle.storage_files.specs.Files.{is_emptied_in}
use Rattle.mail_fetch.specs.Claims.{HasFetchRoom}
use Rattle.mail_fetch.specs.declared.task.FetchStage.TheVariants as stage
use Rattle.mail_fetch.proofs.RemovalCallLemmas.{doomed_ends, failed_says, removing_says}
use Rattle.mail_fetch.proofs.StageLemmas.{first_says, reading_says, says_seen, stage_seen, stopped_says, unpinning_says}
use Rattle.mail_fetch.proofs.task.FetchTask.step.Goals as goal

pub begin-next-requires-clause-room : goal.begin-next-requires-clause-room
begin-next-requires-clause-room g c =
    subst (λ (s : FetchStage). HasFetchRoom s c.args.store.now) (stage_seen _ c.args.self.now stage.First c.self.view_is (sym c.replace.ensures.value ∙ c.in-First.is)) (c.requires.room (sym c.stopped.ensures ∙ c.if-stopped.false))

pub read_piece-requires-clause-known : goal.read_piece-requires-clause-known
read_piece-requires-clause-known g c =
    (subst (λ (s : FetchStage). IsReadyToFetch s c.args.store.now) (stage_seen _ c.args.self.now (stage.Reading c.in-Reading.region) c.self.view_is (sym c.replace.ensures.value ∙ c.in-Reading.is)) (c.requires.ready (sym c.stopped.ensures ∙ c.if-stopped.false))).left

pub unpin-next-requires : goal.unpin-next-requires
unpin-next-requires g c = record {
  claimed = subst (λ (s : FetchStage). IsReadyToFetch s c.args.store.now) (stage_seen _ c.args.self.now (stage.Unpinning c.in-Unpinning.from c.in-Unpinning.reply) c.self.view_is (sym c.replace.ensures.value ∙ c.in-Unpinning.is)) (c.requires.ready (sym c.stopped.ensures ∙ c.if-stopped.false));
}

pub remove_file-requires-clause-there : goal.remove_file-requires-clause-there
remove_file-requires-clause-there g c =
    let can = (subst (λ (s : FetchStage). IsReadyToFetch s c.args.store.now) (stage_seen _ c.args.self.now (stage.Removing c.in-Removing.file c.in-Removing.reply) c.self.view_is (sym c.replace.ensures.value ∙ c.in-Removing.is)) (c.requires.ready (sym c.stopped.ensures ∙ c.if-stopped.false))) in
    doomed_ends c.in-Removing.file.0 c.args.store.now.files.files c.facts.ensures.files.used can.doomed

pub remove_file-requires-clause-unpinned : goal.remove_file-requires-clause-unpinned
remove_file-requires-clause-unpinned g c =
    (subst (λ (s : FetchStage). IsReadyToFetch s c.args.store.now) (stage_seen _ c.args.self.now (stage.Removing c.in-Removing.file c.in-Removing.reply) c.self.view_is (sym c.replace.ensures.value ∙ c.in-Removing.is)) (c.requires.ready (sym c.stopped.ensures ∙ c.if-stopped.false))).unpinned

pub remove_file-requires-clause-unused : goal.remove_file-requires-clause-unused
remove_file-requires-clause-unused g c =
    (subst (λ (s : FetchStage). IsReadyToFetch s c.args.store.now) (stage_seen _ c.args.self.now (stage.Removing c.in-Removing.file c.in-Removing.reply) c.self.view_is (sym c.replace.ensures.value ∙ c.in-Removing.is)) (c.requires.ready (sym c.stopped.ensures ∙ c.if-stopped.false))).elsewhere

pub remove_file-requires-clause-own : goal.remove_file-requires-clause-own
remove_file-requires-clause-own g c =
    let can = (subst (λ (s : FetchStage). IsReadyToFetch s c.args.store.now) (stage_seen _ c.args.self.now (stage.Removing c.in-Removing.file c.in-Removing.reply) c.self.view_is (sym c.replace.ensures.value ∙ c.in-Removing.is)) (c.requires.ready (sym c.stopped.ensures ∙ c.if-stopped.false))) in
    ap (λ (b : Bool). b || is_emptied_in c.in-Removing.file.0 c.args.store.now.files.files) can.doomed

pub returns-then-stopped-clause-does : goal.returns-then-stopped-clause-does
returns-then-stopped-clause-does g c =
    let runs_not = sym c.stopped.ensures ∙ c.if-stopped.true in
    let says = says_seen g.D.Disk.history g.D.Disk.faults _ c.args.self.now c.self.inside.stage c.self.inside.stage c.self.inside.stage c.args.store.now c.args.store.now did.Quiet (progress.Done (reply.Refused refusal.Stopped)) c.self.view_is refl refl
    (stopped_says g.D.Disk.history g.D.Disk.faults c.self.inside.name c.self.inside.uid c.self.inside.stage c.args.store.now c.self.invariant runs_not) in
    says.does

pub returns-then-stopped-clause-claims : goal.returns-then-stopped-clause-claims
returns-then-stopped-clause-claims g c =
    let runs_not = sym c.stopped.ensures ∙ c.if-stopped.true in
    let says = says_seen g.D.Disk.history g.D.Disk.faults _ c.args.self.now c.self.inside.stage c.self.inside.stage c.self.inside.stage c.args.store.now c.args.store.now did.Quiet (progress.Done (reply.Refused refusal.Stopped)) c.self.view_is refl refl
    (stopped_says g.D.Disk.history g.D.Disk.faults c.self.inside.name c.self.inside.uid c.self.inside.stage c.args.store.now c.self.invariant runs_not) in
    says.claims

pub returns-then-stopped-clause-alone : goal.returns-then-stopped-clause-alone
returns-then-stopped-clause-alone g c =
    let runs_not = sym c.stopped.ensures ∙ c.if-stopped.true in
    let says = says_seen g.D.Disk.history g.D.Disk.faults _ c.args.self.now c.self.inside.stage c.self.inside.stage c.self.inside.stage c.args.store.now c.args.store.now did.Quiet (progress.Done (reply.Refused refusal.Stopped)) c.self.view_is refl refl
    (stopped_says g.D.Disk.history g.D.Disk.faults c.self.inside.name c.self.inside.uid c.self.inside.stage c.args.store.now c.self.invariant runs_not) in
    says.alone

pub returns-in-First-clause-does : goal.returns-in-First-clause-does
returns-in-First-clause-does g c =
    let runs = sym c.stopped.ensures ∙ c.if-stopped.false in
    let begun = c.begin-next.ensures in
    let says = says_seen g.D.Disk.history g.D.Disk.faults _ c.args.self.now stage.First c.begin-next.result.0 c.begin-next.result.0 c.args.store.now c.begin-next.new.store c.did_begin-self-inside.result c.begin-next.result.1 c.self.view_is (sym c.replace.ensures.value ∙ c.in-First.is) refl
    (first_says g.D.Disk.history g.D.Disk.faults c.self.inside.name c.self.inside.uid c.begin-next.result.0 c.args.store.now c.begin-next.new.store c.did_begin-self-inside.result c.begin-next.result.1 c.facts.ensures.store runs begun.begun begun.there begun.same begun.claims begun.leaves begun.ready c.did_begin-self-inside.ensures) in
    says.does

pub returns-in-First-clause-claims : goal.returns-in-First-clause-claims
returns-in-First-clause-claims g c =
    let runs = sym c.stopped.ensures ∙ c.if-stopped.false in
    let begun = c.begin-next.ensures in
    let says = says_seen g.D.Disk.history g.D.Disk.faults _ c.args.self.now stage.First c.begin-next.result.0 c.begin-next.result.0 c.args.store.now c.begin-next.new.store c.did_begin-self-inside.result c.begin-next.result.1 c.self.view_is (sym c.replace.ensures.value ∙ c.in-First.is) refl
    (first_says g.D.Disk.history g.D.Disk.faults c.self.inside.name c.self.inside.uid c.begin-next.result.0 c.args.store.now c.begin-next.new.store c.did_begin-self-inside.result c.begin-next.result.1 c.facts.ensures.store runs begun.begun begun.there begun.same begun.claims begun.leaves begun.ready c.did_begin-self-inside.ensures) in
    says.claims

pub returns-in-First-clause-alone : goal.returns-in-First-clause-alone
returns-in-First-clause-alone g c =
    let runs = sym c.stopped.ensures ∙ c.if-stopped.false in
    let begun = c.begin-next.ensures in
    let says = says_seen g.D.Disk.history g.D.Disk.faults _ c.args.self.now stage.First c.begin-next.result.0 c.begin-next.result.0 c.args.store.now c.begin-next.new.store c.did_begin-self-inside.result c.begin-next.result.1 c.self.view_is (sym c.replace.ensures.value ∙ c.in-First.is) refl
    (first_says g.D.Disk.history g.D.Disk.faults c.self.inside.name c.self.inside.uid c.begin-next.result.0 c.args.store.now c.begin-next.new.store c.did_begin-self-inside.result c.begin-next.result.1 c.facts.ensures.store runs begun.begun begun.there begun.same begun.claims begun.leaves begun.ready c.did_begin-self-inside.ensures) in
    says.alone

pub returns-in-Reading-clause-does : goal.returns-in-Reading-clause-does
returns-in-Reading-clause-does g c =
    let runs = sym c.stopped.ensures ∙ c.if-stopped.false in
    let at = sym c.replace.ensures.value ∙ c.in-Reading.is in
    let read = c.read_piece.ensures in
    let ready = subst (λ (s : FetchStage). IsReadyToFetch s c.args.store.now) (stage_seen _ c.args.self.now (stage.Reading c.in-Reading.region) c.self.view_is at) (c.requires.ready runs) in
    let says = says_seen g.D.Disk.history g.D.Disk.faults _ c.args.self.now (stage.Reading c.in-Reading.region) c.read_piece.result c.read_piece.result c.args.store.now c.read_piece.new.store did.Quiet progress.More c.self.view_is at refl
    (reading_says g.D.Disk.history g.D.Disk.faults c.self.inside.name c.self.inside.uid c.in-Reading.region c.read_piece.result c.args.store.now c.read_piece.new.store (subst HasPieceLeft at c.self.invariant) runs read.same read.idle read.fault read.unfailed read.read (read.ready ready)) in
    says.does

pub returns-in-Reading-clause-claims : goal.returns-in-Reading-clause-claims
returns-in-Reading-clause-claims g c =
    let runs = sym c.stopped.ensures ∙ c.if-stopped.false in
    let at = sym c.replace.ensures.value ∙ c.in-Reading.is in
    let read = c.read_piece.ensures in
    let ready = subst (λ (s : FetchStage). IsReadyToFetch s c.args.store.now) (stage_seen _ c.args.self.now (stage.Reading c.in-Reading.region) c.self.view_is at) (c.requires.ready runs) in
    let says = says_seen g.D.Disk.history g.D.Disk.faults _ c.args.self.now (stage.Reading c.in-Reading.region) c.read_piece.result c.read_piece.result c.args.store.now c.read_piece.new.store did.Quiet progress.More c.self.view_is at refl
    (reading_says g.D.Disk.history g.D.Disk.faults c.self.inside.name c.self.inside.uid c.in-Reading.region c.read_piece.result c.args.store.now c.read_piece.new.store (subst HasPieceLeft at c.self.invariant) runs read.same read.idle read.fault read.unfailed read.read (read.ready ready)) in
    says.claims

pub returns-in-Reading-clause-alone : goal.returns-in-Reading-clause-alone
returns-in-Reading-clause-alone g c =
    let runs = sym c.stopped.ensures ∙ c.if-stopped.false in
    let at = sym c.replace.ensures.value ∙ c.in-Reading.is in
    let read = c.read_piece.ensures in
    let ready = subst (λ (s : FetchStage). IsReadyToFetch s c.args.store.now) (stage_seen _ c.args.self.now (stage.Reading c.in-Reading.region) c.self.view_is at) (c.requires.ready runs) in
    let says = says_seen g.D.Disk.history g.D.Disk.faults _ c.args.self.now (stage.Reading c.in-Reading.region) c.read_piece.result c.read_piece.result c.args.store.now c.read_piece.new.store did.Quiet progress.More c.self.view_is at refl
    (reading_says g.D.Disk.history g.D.Disk.faults c.self.inside.name c.self.inside.uid c.in-Reading.region c.read_piece.result c.args.store.now c.read_piece.new.store (subst HasPieceLeft at c.self.invariant) runs read.same read.idle read.fault read.unfailed read.read (read.ready ready)) in
    says.alone

pub returns-in-Unpinning-clause-does : goal.returns-in-Unpinning-clause-does
returns-in-Unpinning-clause-does g c =
    let runs = sym c.stopped.ensures ∙ c.if-stopped.false in
    let at = sym c.replace.ensures.value ∙ c.in-Unpinning.is in
    let own = subst (λ (s : FetchStage). IsReadyToFetch s c.args.store.now) (stage_seen _ c.args.self.now (stage.Unpinning c.in-Unpinning.from c.in-Unpinning.reply) c.self.view_is at) (c.requires.ready runs) in
    let unpinned = c.unpin-next.ensures in
    let says = says_seen g.D.Disk.history g.D.Disk.faults _ c.args.self.now (stage.Unpinning c.in-Unpinning.from c.in-Unpinning.reply) c.unpin-next.result.0 c.unpin-next.result.0 c.args.store.now c.unpin-next.new.store did.Quiet c.unpin-next.result.1 c.self.view_is at refl
    (unpinning_says g.D.Disk.history g.D.Disk.faults c.self.inside.name c.self.inside.uid c.in-Unpinning.from c.in-Unpinning.reply c.unpin-next.result.0 c.unpin-next.result.1 c.args.store.now c.unpin-next.new.store runs own unpinned.unpinned unpinned.same unpinned.claims unpinned.leaves unpinned.ready) in
    says.does

pub returns-in-Unpinning-clause-claims : goal.returns-in-Unpinning-clause-claims
returns-in-Unpinning-clause-claims g c =
    let runs = sym c.stopped.ensures ∙ c.if-stopped.false in
    let at = sym c.replace.ensures.value ∙ c.in-Unpinning.is in
    let own = subst (λ (s : FetchStage). IsReadyToFetch s c.args.store.now) (stage_seen _ c.args.self.now (stage.Unpinning c.in-Unpinning.from c.in-Unpinning.reply) c.self.view_is at) (c.requires.ready runs) in
    let unpinned = c.unpin-next.ensures in
    let says = says_seen g.D.Disk.history g.D.Disk.faults _ c.args.self.now (stage.Unpinning c.in-Unpinning.from c.in-Unpinning.reply) c.unpin-next.result.0 c.unpin-next.result.0 c.args.store.now c.unpin-next.new.store did.Quiet c.unpin-next.result.1 c.self.view_is at refl
    (unpinning_says g.D.Disk.history g.D.Disk.faults c.self.inside.name c.self.inside.uid c.in-Unpinning.from c.in-Unpinning.reply c.unpin-next.result.0 c.unpin-next.result.1 c.args.store.now c.unpin-next.new.store runs own unpinned.unpinned unpinned.same unpinned.claims unpinned.leaves unpinned.ready) in
    says.claims

pub returns-in-Unpinning-clause-alone : goal.returns-in-Unpinning-clause-alone
returns-in-Unpinning-clause-alone g c =
    let runs = sym c.stopped.ensures ∙ c.if-stopped.false in
    let at = sym c.replace.ensures.value ∙ c.in-Unpinning.is in
    let own = subst (λ (s : FetchStage). IsReadyToFetch s c.args.store.now) (stage_seen _ c.args.self.now (stage.Unpinning c.in-Unpinning.from c.in-Unpinning.reply) c.self.view_is at) (c.requires.ready runs) in
    let unpinned = c.unpin-next.ensures in
    let says = says_seen g.D.Disk.history g.D.Disk.faults _ c.args.self.now (stage.Unpinning c.in-Unpinning.from c.in-Unpinning.reply) c.unpin-next.result.0 c.unpin-next.result.0 c.args.store.now c.unpin-next.new.store did.Quiet c.unpin-next.result.1 c.self.view_is at refl
    (unpinning_says g.D.Disk.history g.D.Disk.faults c.self.inside.name c.self.inside.uid c.in-Unpinning.from c.in-Unpinning.reply c.unpin-next.result.0 c.unpin-next.result.1 c.args.store.now c.unpin-next.new.store runs own unpinned.unpinned unpinned.same unpinned.claims unpinned.leaves unpinned.ready) in
    says.alone

pub returns-in-Ok-clause-does : goal.returns-in-Ok-clause-does
returns-in-Ok-clause-does g c =
    let runs = sym c.stopped.ensures ∙ c.if-stopped.false in
    let at = sym c.replace.ensures.value ∙ c.in-Removing.is in
    let can = subst (λ (s : FetchStage). IsReadyToFetch s c.args.store.now) (stage_seen _ c.args.self.now (stage.Removing c.in-Removing.file c.in-Removing.reply) c.self.view_is at) (c.requires.ready runs) in
    let gone = c.in-Ok.ensures in
    let says = says_seen g.D.Disk.history g.D.Disk.faults _ c.args.self.now (stage.Removing c.in-Removing.file c.in-Removing.reply) stage.First c.replace.new.dest c.args.store.now c.remove_file.new.self did.Quiet (progress.Done c.in-Removing.reply) c.self.view_is at c.replace.ensures.after
    (removing_says g.D.Disk.history g.D.Disk.faults c.self.inside.name c.self.inside.uid c.in-Removing.file c.in-Removing.reply c.args.store.now c.remove_file.new.self runs can c.facts.ensures.files c.facts.ensures.store.files.highest gone.any_moment gone.mail_stays gone.settled gone.gone gone.others gone.ok gone.grows _ gone.fault gone.unfailed) in
    says.does

pub returns-in-Ok-clause-claims : goal.returns-in-Ok-clause-claims
returns-in-Ok-clause-claims g c =
    let runs = sym c.stopped.ensures ∙ c.if-stopped.false in
    let at = sym c.replace.ensures.value ∙ c.in-Removing.is in
    let can = subst (λ (s : FetchStage). IsReadyToFetch s c.args.store.now) (stage_seen _ c.args.self.now (stage.Removing c.in-Removing.file c.in-Removing.reply) c.self.view_is at) (c.requires.ready runs) in
    let gone = c.in-Ok.ensures in
    let says = says_seen g.D.Disk.history g.D.Disk.faults _ c.args.self.now (stage.Removing c.in-Removing.file c.in-Removing.reply) stage.First c.replace.new.dest c.args.store.now c.remove_file.new.self did.Quiet (progress.Done c.in-Removing.reply) c.self.view_is at c.replace.ensures.after
    (removing_says g.D.Disk.history g.D.Disk.faults c.self.inside.name c.self.inside.uid c.in-Removing.file c.in-Removing.reply c.args.store.now c.remove_file.new.self runs can c.facts.ensures.files c.facts.ensures.store.files.highest gone.any_moment gone.mail_stays gone.settled gone.gone gone.others gone.ok gone.grows _ gone.fault gone.unfailed) in
    says.claims

pub returns-in-Ok-clause-alone : goal.returns-in-Ok-clause-alone
returns-in-Ok-clause-alone g c =
    let runs = sym c.stopped.ensures ∙ c.if-stopped.false in
    let at = sym c.replace.ensures.value ∙ c.in-Removing.is in
    let can = subst (λ (s : FetchStage). IsReadyToFetch s c.args.store.now) (stage_seen _ c.args.self.now (stage.Removing c.in-Removing.file c.in-Removing.reply) c.self.view_is at) (c.requires.ready runs) in
    let gone = c.in-Ok.ensures in
    let says = says_seen g.D.Disk.history g.D.Disk.faults _ c.args.self.now (stage.Removing c.in-Removing.file c.in-Removing.reply) stage.First c.replace.new.dest c.args.store.now c.remove_file.new.self did.Quiet (progress.Done c.in-Removing.reply) c.self.view_is at c.replace.ensures.after
    (removing_says g.D.Disk.history g.D.Disk.faults c.self.inside.name c.self.inside.uid c.in-Removing.file c.in-Removing.reply c.args.store.now c.remove_file.new.self runs can c.facts.ensures.files c.facts.ensures.store.files.highest gone.any_moment gone.mail_stays gone.settled gone.gone gone.others gone.ok gone.grows _ gone.fault gone.unfailed) in
    says.alone

pub returns-in-Err-clause-does : goal.returns-in-Err-clause-does
returns-in-Err-clause-does g c =
    let runs = sym c.stopped.ensures ∙ c.if-stopped.false in
    let at = sym c.replace.ensures.value ∙ c.in-Removing.is in
    let failed = c.in-Err.ensures in
    let says = says_seen g.D.Disk.history g.D.Disk.faults _ c.args.self.now (stage.Removing c.in-Removing.file c.in-Removing.reply) (stage.Removing c.in-Removing.file c.in-Removing.reply) (stage.Removing c.in-Removing.file c.in-Removing.reply) c.args.store.now c.remove_file.new.self did.Failed (progress.Done (reply.Refused refusal.Stopped)) c.self.view_is at refl
    (failed_says g.D.Disk.history g.D.Disk.faults c.self.inside.name c.self.inside.uid c.in-Removing.file c.in-Removing.reply c.args.store.now c.remove_file.new.self runs failed.any_moment failed.mail_stays failed.err failed.grows _ refl failed.fault) in
    says.does

pub returns-in-Err-clause-claims : goal.returns-in-Err-clause-claims
returns-in-Err-clause-claims g c =
    let runs = sym c.stopped.ensures ∙ c.if-stopped.false in
    let at = sym c.replace.ensures.value ∙ c.in-Removing.is in
    let failed = c.in-Err.ensures in
    let says = says_seen g.D.Disk.history g.D.Disk.faults _ c.args.self.now (stage.Removing c.in-Removing.file c.in-Removing.reply) (stage.Removing c.in-Removing.file c.in-Removing.reply) (stage.Removing c.in-Removing.file c.in-Removing.reply) c.args.store.now c.remove_file.new.self did.Failed (progress.Done (reply.Refused refusal.Stopped)) c.self.view_is at refl
    (failed_says g.D.Disk.history g.D.Disk.faults c.self.inside.name c.self.inside.uid c.in-Removing.file c.in-Removing.reply c.args.store.now c.remove_file.new.self runs failed.any_moment failed.mail_stays failed.err failed.grows _ refl failed.fault) in
    says.claims

pub returns-in-Err-clause-alone : goal.returns-in-Err-clause-alone
returns-in-Err-clause-alone g c =
    let runs = sym c.stopped.ensures ∙ c.if-stopped.false in
    let at = sym c.replace.ensures.value ∙ c.in-Removing.is in
    let failed = c.in-Err.ensures in
    let says = says_seen g.D.Disk.history g.D.Disk.faults _ c.args.self.now (stage.Removing c.in-Removing.file c.in-Removing.reply) (stage.Removing c.in-Removing.file c.in-Removing.reply) (stage.Removing c.in-Removing.file c.in-Removing.reply) c.args.store.now c.remove_file.new.self did.Failed (progress.Done (reply.Refused refusal.Stopped)) c.self.view_is at refl
    (failed_says g.D.Disk.history g.D.Disk.faults c.self.inside.name c.self.inside.uid c.in-Removing.file c.in-Removing.reply c.args.store.now c.remove_file.new.self runs failed.any_moment failed.mail_stays failed.err failed.grows _ refl failed.fault) in
    says.alone
