use Rattle.mail_save.proofs.Common.{ap, inl, refl, sym, subst, ◌∙◌, Mail, end_in}
use Rattle.mail_save.proofs.StayingLemmas.{kept_same, kept_since}
use Rattle.mail_save.proofs.PlaceLemmas.{unchanged_leaves, unchanged_settled}
use Rattle.mail_save.proofs.TakingLemmas.{takes_known, takes_new, takes_failing, takes_full, holds_known, holds_new, took_known_unbegun, took_new_unbegun}
use Rattle.mail_save.proofs.MailFileLemmas.{mail_unchanged, took_known, took_new}
use Rattle.storage_files.specs.OnDisk.{OthersAreNamed}
use Rattle.mail_save.proofs.place.take_file.Goals as goal

-- ---- no memory

pub returns-in-Err-clause-any_moment : goal.returns-in-Err-clause-any_moment
returns-in-Err-clause-any_moment g c = λ lists s. unchanged_leaves g.D.Disk.history c.args.store.now.disk c.reserve.new.self.disk (ap (λ v. v.disk) c.in-Err.ensures.err) lists lists s

pub returns-in-Err-clause-none : goal.returns-in-Err-clause-none
returns-in-Err-clause-none g c = inl (refl, c.in-Err.ensures.err)

-- ---- a file that is there

pub returns-in-Known-clause-taken : goal.returns-in-Known-clause-taken
returns-in-Known-clause-taken g c = holds_known c.args.size c.in-Known.file c.take_for.new.self _ c.facts-in-Known.ensures.store c.in-Known.ensures.given
    (took_known_unbegun c.args.size c.in-Known.file c.args.store.now c.reserve.new.self c.take_for.new.self c.facts.ensures.files c.in_default.ensures.ok c.in-Known.ensures.same c.in-Known.ensures.take)

pub returns-in-Known-clause-takes : goal.returns-in-Known-clause-takes
returns-in-Known-clause-takes g c =
    takes_known _ c.args.size c.in-Known.file c.args.store.now c.reserve.new.self c.take_for.new.self c.facts.ensures.files c.facts.ensures.store.files.highest c.in_default.ensures.ok c.in-Known.ensures.same c.in-Known.ensures.take

pub returns-in-Known-clause-any_moment : goal.returns-in-Known-clause-any_moment
returns-in-Known-clause-any_moment g c = λ lists s.
    unchanged_leaves g.D.Disk.history c.args.store.now.disk c.take_for.new.self.disk (ap (λ v. v.disk) c.in-Known.ensures.same ∙ ap (λ v. v.disk) c.in_default.ensures.ok) lists lists s

-- ---- a new one

pub returns-in-Ok-clause-taken : goal.returns-in-Ok-clause-taken
returns-in-Ok-clause-taken g c =
    holds_new c.args.size _ c.in-New.file c.make_file.new.self _ c.facts-in-Ok.ensures.store (c.make_file.ensures.taken c.in-New.file.0 ∙ c.in-New.ensures.given.0)
    (took_new_unbegun c.args.size _ c.in-New.file c.args.store.now c.reserve.new.self c.take_for.new.self c.make_file.new.self c.facts.ensures.files c.in_default.ensures.ok c.in-New.ensures.same c.in-Ok.ensures.ok c.in-New.ensures.take) c.in-Ok.ensures.ends c.requires.size

pub returns-in-Ok-clause-takes : goal.returns-in-Ok-clause-takes
returns-in-Ok-clause-takes g c =
    takes_new c.args.size _ c.in-New.file c.args.store.now c.reserve.new.self c.take_for.new.self c.make_file.new.self c.facts.ensures.files c.in_default.ensures.ok c.in-New.ensures.same c.in-Ok.ensures.ok c.in-New.ensures.take

pub returns-in-Ok-clause-settled : goal.returns-in-Ok-clause-settled
returns-in-Ok-clause-settled g c = λ ran lists s.
    c.in-Ok.ensures.settled lists (unchanged_settled g.D.Disk.history c.args.store.now.disk c.take_for.new.self.disk (ap (λ v. v.disk) c.in-New.ensures.same ∙ ap (λ v. v.disk) c.in_default.ensures.ok) lists s)

pub returns-in-Err-make_file-clause-none : goal.returns-in-Err-make_file-clause-none
returns-in-Err-make_file-clause-none g c =
    takes_failing c.args.size c.in-New.file c.args.store.now c.reserve.new.self c.take_for.new.self c.make_file.new.self c.facts.ensures.files c.in_default.ensures.ok c.in-New.ensures.same c.in-Err-make_file.ensures.err c.in-New.ensures.take

-- ---- no number is left

pub returns-in-Full-clause-any_moment : goal.returns-in-Full-clause-any_moment
returns-in-Full-clause-any_moment g c = λ lists s.
    unchanged_leaves g.D.Disk.history c.args.store.now.disk c.take_for.new.self.disk (ap (λ v. v.disk) c.in-Full.ensures.same ∙ ap (λ v. v.disk) c.in_default.ensures.ok) lists lists s

pub returns-in-Full-clause-none : goal.returns-in-Full-clause-none
returns-in-Full-clause-none g c = takes_full c.args.size c.args.store.now c.reserve.new.self c.take_for.new.self c.facts.ensures.store.files.highest c.in_default.ensures.ok c.in-Full.ensures.same c.in-Full.ensures.take

-- ---- on the disk

pub returns-in-Known-clause-mail : goal.returns-in-Known-clause-mail
returns-in-Known-clause-mail g c =
    let same = c.in-Known.ensures.same in
    let reserved = c.in_default.ensures.ok in
    let end = c.in-Known.ensures.given.1 in
    took_known c.args.header.now c.in-Known.file.0 end.0 c.args.store.now _ _ (ap (λ v. end_in c.in-Known.file.0 v.files.files) (sym reserved) ∙ (sym (c.in-Known.ensures.ends c.in-Known.file.0) ∙ end.1))
    (mail_unchanged g.D.Disk.history c.args.store.now.disk c.take_for.new.self.disk (ap (λ v. v.disk) same ∙ ap (λ v. v.disk) reserved))

pub returns-in-Ok-clause-mail : goal.returns-in-Ok-clause-mail
returns-in-Ok-clause-mail g c =
    let reserved = c.in_default.ensures.ok in
    let disk = ap (λ v. v.disk) c.in-New.ensures.same ∙ ap (λ v. v.disk) reserved in
    took_new c.args.header.now c.in-New.file.0 c.args.store.now _ _ (ap (λ v. end_in c.in-New.file.0 v.files.files) (sym reserved) ∙ (sym (c.in-New.ensures.ends c.in-New.file.0) ∙ c.in-New.ensures.given.1))
    (subst (λ d. OthersAreNamed (Mail c.in-New.file.0) (g.D.Disk.history d) (g.D.Disk.history c.make_file.new.self.disk)) disk c.in-Ok.ensures.others) c.in-Ok.ensures.made

-- ---- at each moment

pub returns-in-Err-clause-mail_stays : goal.returns-in-Err-clause-mail_stays
returns-in-Err-clause-mail_stays g c = kept_same g.D.Disk.history _ c.args.store.now.disk c.reserve.new.self.disk (ap (λ v. v.disk) c.in-Err.ensures.err)

pub returns-in-Known-clause-mail_stays : goal.returns-in-Known-clause-mail_stays
returns-in-Known-clause-mail_stays g c = kept_same g.D.Disk.history _ c.args.store.now.disk c.take_for.new.self.disk (ap (λ v. v.disk) c.in-Known.ensures.same ∙ ap (λ v. v.disk) c.in_default.ensures.ok)

pub returns-in-Full-clause-mail_stays : goal.returns-in-Full-clause-mail_stays
returns-in-Full-clause-mail_stays g c = kept_same g.D.Disk.history _ c.args.store.now.disk c.take_for.new.self.disk (ap (λ v. v.disk) c.in-Full.ensures.same ∙ ap (λ v. v.disk) c.in_default.ensures.ok)

pub returns-in-Ok-clause-mail_stays : goal.returns-in-Ok-clause-mail_stays
returns-in-Ok-clause-mail_stays g c =
    kept_since g.D.Disk.history c.args.store.now c.take_for.new.self _ (ap (λ v. v.map) c.in-New.ensures.same ∙ ap (λ v. v.map) c.in_default.ensures.ok) (ap (λ v. v.disk) c.in-New.ensures.same ∙ ap (λ v. v.disk) c.in_default.ensures.ok) c.make_file.ensures.mail_stays

pub returns-in-Err-make_file-clause-mail_stays : goal.returns-in-Err-make_file-clause-mail_stays
returns-in-Err-make_file-clause-mail_stays g c =
    kept_since g.D.Disk.history c.args.store.now c.take_for.new.self _ (ap (λ v. v.map) c.in-New.ensures.same ∙ ap (λ v. v.map) c.in_default.ensures.ok) (ap (λ v. v.disk) c.in-New.ensures.same ∙ ap (λ v. v.disk) c.in_default.ensures.ok) c.make_file.ensures.mail_stays
