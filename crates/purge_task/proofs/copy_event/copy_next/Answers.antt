use Rattle.purge_task.proofs.Common.{refl, ap, ◌∙◌, store_sound, sources_left, StoreValue}
use Rattle.purge_task.proofs.DropLemmas.{map_given}
use Rattle.purge_task.proofs.CopyCallLemmas.{copied_says, noted_for}
use Rattle.purge_task.proofs.CopyingLemmas.{copying_one, first_left, may_copy}
use Rattle.purge_task.proofs.FurtherLemmas.{further_copy}
use Rattle.purge_task.proofs.RegionLemmas.{counts_same}
use Rattle.purge_task.proofs.UnreadCallLemmas.{can_give, uncopied_says}
use Rattle.purge_task.proofs.QuietCallLemmas.{copied_quiet}
use Rattle.purge_task.proofs.copy_event.copy_next.Goals as goal

pub copy_message-requires-clause-row : goal.copy_message-requires-clause-row
copy_message-requires-clause-row g c = (may_copy c.args.work c.args.target c.args.row c.args.store.now (g.D.Disk.history c.args.store.now.disk) (store_sound _ _ c.facts.ensures.store) c.facts.ensures.files.used c.requires.ready c.requires.target c.requires.wanted).row_is

pub copy_message-requires-clause-begun : goal.copy_message-requires-clause-begun
copy_message-requires-clause-begun g c = (may_copy c.args.work c.args.target c.args.row c.args.store.now (g.D.Disk.history c.args.store.now.disk) (store_sound _ _ c.facts.ensures.store) c.facts.ensures.files.used c.requires.ready c.requires.target c.requires.wanted).begun

pub copy_message-requires-clause-fits : goal.copy_message-requires-clause-fits
copy_message-requires-clause-fits g c = (may_copy c.args.work c.args.target c.args.row c.args.store.now (g.D.Disk.history c.args.store.now.disk) (store_sound _ _ c.facts.ensures.store) c.facts.ensures.files.used c.requires.ready c.requires.target c.requires.wanted).fits

pub copy_message-requires-clause-other : goal.copy_message-requires-clause-other
copy_message-requires-clause-other g c = (may_copy c.args.work c.args.target c.args.row c.args.store.now (g.D.Disk.history c.args.store.now.disk) (store_sound _ _ c.facts.ensures.store) c.facts.ensures.files.used c.requires.ready c.requires.target c.requires.wanted).other

pub copy_message-requires-clause-room : goal.copy_message-requires-clause-room
copy_message-requires-clause-room g c = (may_copy c.args.work c.args.target c.args.row c.args.store.now (g.D.Disk.history c.args.store.now.disk) (store_sound _ _ c.facts.ensures.store) c.facts.ensures.files.used c.requires.ready c.requires.target c.requires.wanted).room

pub give_back-requires : goal.give_back-requires
give_back-requires g c on =
    let f = first_left c.args.work c.args.target c.requires.target in
    let one = copying_one c.args.work f.0 f.1 c.args.target c.args.row c.args.store.now (g.D.Disk.history c.args.store.now.disk) f.2 c.requires.ready c.requires.target c.requires.wanted c.facts.ensures.files.used in
    let refused = c.in-Err.ensures.refused in
    can_give c.args.work f.0 f.1 _ c.args.target c.args.row refused.0.end c.args.store.now c.copy_message.new.store (g.D.Disk.history c.args.store.now.disk) one c.requires.ready (c.left.ensures ∙ (ap sources_left refused.1 ∙ f.2)) refused.0.at c.facts-in-Err.ensures.files.used

pub returns-in-Ok-clause-step : goal.returns-in-Ok-clause-step
returns-in-Ok-clause-step g c t at =
    let f = first_left c.args.work c.args.target c.requires.target in
    let one = copying_one c.args.work f.0 f.1 c.args.target c.args.row c.args.store.now (g.D.Disk.history c.args.store.now.disk) f.2 c.requires.ready c.requires.target c.requires.wanted c.facts.ensures.files.used in
    let e = c.in-Ok.ensures in
    let ok = e.ok one.copying.end one.copying.ends in
    copied_says g.D.Disk.history g.D.Disk.faults t _ c.args.work c.copy_message.new.work f.0 f.1 c.args.target c.args.row c.args.store.now c.copy_message.new.store at refl refl refl refl refl c.requires.running (store_sound _ _ c.facts.ensures.store) c.facts.ensures.files.used
    ((c.facts.ensures.store.running c.requires.running).files_known c.args.target.0) one (noted_for c.args.row one.copying.end f.0 f.1 c.args.work c.copy_message.new.work f.2 ok.2) e.any_moment e.mail_stays (e.settled ok.1) e.copied (e.others ok.1) (e.front ok.1) ok.0 ok.1 e.grows (counts_same _ c.in-Ok.field-0 _ _ refl e.fault) c.facts.ensures.store

pub returns-in-Err-clause-step : goal.returns-in-Err-clause-step
returns-in-Err-clause-step g c t at =
    let f = first_left c.args.work c.args.target c.requires.target in
    let one = copying_one c.args.work f.0 f.1 c.args.target c.args.row c.args.store.now (g.D.Disk.history c.args.store.now.disk) f.2 c.requires.ready c.requires.target c.requires.wanted c.facts.ensures.files.used in
    let e = c.in-Err.ensures in
    uncopied_says g.D.Disk.history g.D.Disk.faults t c.args.work f.0 f.1 _ c.args.target c.args.row c.in-Err.why c.args.store.now c.copy_message.new.store c.give_back.new.store at c.requires.running (store_sound _ _ c.facts.ensures.store) c.facts.ensures.files.used c.facts-in-Err.ensures.files.used c.requires.ready one
    (c.left.ensures ∙ (ap sources_left e.refused.1 ∙ f.2)) e.refused.0 (record { moments = e.any_moment; mail = e.mail_stays; rests = e.settled; others = e.others; more = e.front; grows = e.grows }) e.fault c.give_back.ensures.stopped c.give_back.ensures.running c.facts.ensures.store

pub returns-in-Ok-clause-further : goal.returns-in-Ok-clause-further
returns-in-Ok-clause-further g c =
    let f = first_left c.args.work c.args.target c.requires.target in
    let one = copying_one c.args.work f.0 f.1 c.args.target c.args.row c.args.store.now (g.D.Disk.history c.args.store.now.disk) f.2 c.requires.ready c.requires.target c.requires.wanted c.facts.ensures.files.used in
    let ok = c.in-Ok.ensures.ok one.copying.end one.copying.ends in
    further_copy c.args.store.now.map c.args.work c.copy_message.new.work f.0.file.0 one.copying.end c.args.row (store_sound _ _ c.facts.ensures.store) one.wanted ok.2

pub returns-in-Ok-clause-map : goal.returns-in-Ok-clause-map
returns-in-Ok-clause-map g c =
    let f = first_left c.args.work c.args.target c.requires.target in
    let one = copying_one c.args.work f.0 f.1 c.args.target c.args.row c.args.store.now (g.D.Disk.history c.args.store.now.disk) f.2 c.requires.ready c.requires.target c.requires.wanted c.facts.ensures.files.used in
    ap (λ (s : StoreValue _). s.map) (c.in-Ok.ensures.ok one.copying.end one.copying.ends).0.same

pub returns-in-Err-clause-map : goal.returns-in-Err-clause-map
returns-in-Err-clause-map g c = map_given c.copy_message.new.store c.give_back.new.store _ c.give_back.ensures.stopped c.give_back.ensures.running ∙ ap (λ (s : StoreValue _). s.map) c.in-Err.ensures.refused.0.at.same

pub returns-in-Ok-clause-begun : goal.returns-in-Ok-clause-begun
returns-in-Ok-clause-begun g c = λ e. cc e

pub returns-in-Ok-clause-quiet : goal.returns-in-Ok-clause-quiet
returns-in-Ok-clause-quiet g c t at =
    let f = first_left c.args.work c.args.target c.requires.target in
    let one = copying_one c.args.work f.0 f.1 c.args.target c.args.row c.args.store.now (g.D.Disk.history c.args.store.now.disk) f.2 c.requires.ready c.requires.target c.requires.wanted c.facts.ensures.files.used in
    let e = c.in-Ok.ensures in
    let ok = e.ok one.copying.end one.copying.ends in
    copied_quiet g.D.Disk.history t c.args.work c.copy_message.new.work f.0 f.1 c.args.target c.args.row c.args.store.now c.copy_message.new.store at c.facts.ensures.store ((c.facts.ensures.store.running c.requires.running).files_known c.args.target.0) one
    (noted_for c.args.row one.copying.end f.0 f.1 c.args.work c.copy_message.new.work f.2 ok.2) e.copied (e.others ok.1) (ap (λ (s : StoreValue _). s.map) ok.0.same) (λ runs. ((returns-in-Ok-clause-step g c t at).claims runs).moves)

pub returns-in-Err-clause-quiet : goal.returns-in-Err-clause-quiet
returns-in-Err-clause-quiet g c t at = tt
