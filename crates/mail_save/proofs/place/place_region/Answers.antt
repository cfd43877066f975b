use Rattle.mail_save.proofs.Common.{rules, arith, ℕ, Some, subst, IsFree, ◌≡◌, ◌<◌, ◌+◌, ◌++◌, ◌^◌, length, refl, ap, sym, ◌∙◌, option_and_then, end_in, ending_at, place_begun_in}
use Rattle.storage_files.proofs.FileListLemmas.{ends-other}
use Rattle.mail_save.proofs.PlaceLemmas.{region_placed, place_named}
use Rattle.mail_save.proofs.SaveFileLemmas.{value_changed}
use Rattle.mail_save.proofs.place.place_region.Goals as goal

pub place_texts-requires-clause-fits : goal.place_texts-requires-clause-fits
place_texts-requires-clause-fits g c =
    let t = c.requires.taken in
    let fits = t.fits in
    let long = ap length c.texts.ensures in
    let same = c.set_guid.ensures.size in
    (t.end, t.ends, omega (arith, fits, long, same))

pub length-size-requires : goal.length-size-requires
length-size-requires g c = let fits = c.requires.taken.fits in let same = c.set_guid.ensures.size in omega (arith, fits, same)

pub returns-clause-placed : goal.returns-clause-placed
returns-clause-placed g c =
    let o = c.in_ok-offset.ensures in
    let t = c.texts.result in
    let old = c.args.store.now in
    let new = c.place_texts.new.self in
    let long : length c.id.result.0 ≡ 8 = search rules in
    let same : length ((t.0.now ++ t.1.now) ++ t.2.now) ≡ c.length-size.result = ap length c.texts.ensures ∙ sym c.length-size.ensures in
    let small : c.args.file.0 < 2 ^ 32 = search rules in
    region_placed old new _ _ (ap (λ v. v.map) o.ok) (ap length (sym c.id.ensures) ∙ long) small c.requires.taken (c.length-size.ensures ∙ c.set_guid.ensures.size) (o.taken c.args.file.0)
    (ap (λ v. place_begun_in c.args.file.0 v.files.files) o.ok ∙ value_changed (λ f. option_and_then (λ g. g.begun) f) c.args.file.0 c.args.file.0 (ending_at (c.in_ok-offset.offset + length ((t.0.now ++ t.1.now) ++ t.2.now))) old.files.files (λ f. refl) (λ f at. refl)) o.offset
    (subst (λ (n : ℕ). end_in c.args.file.0 new.files.files ≡ Some (c.in_ok-offset.offset + n)) same o.ends) (subst (λ (n : ℕ). IsFree old.map c.args.file.0 c.in_ok-offset.offset n) same o.free) o.new_place
    (c.guid_at-guid.ensures ∙ place_named old.map.store c.id.result.0 c.args.file.0 c.in-Some.end c.in_ok-offset.offset c.id.ensures (sym c.end_of.ensures ∙ c.in-Some.is) o.offset)

pub returns-clause-others : goal.returns-clause-others
returns-clause-others g c = λ number apart.
    let t = c.texts.result in
    ap (λ v. end_in number v.files.files) c.in_ok-offset.ensures.ok ∙ ends-other c.args.file.0 number (ending_at (c.in_ok-offset.offset + length ((t.0.now ++ t.1.now) ++ t.2.now))) c.args.store.now.files.files (λ f. refl) apart

pub returns-clause-ends : goal.returns-clause-ends
returns-clause-ends g c =
    let t = c.texts.result in
    let same : length ((t.0.now ++ t.1.now) ++ t.2.now) ≡ c.length-size.result = ap length c.texts.ensures ∙ sym c.length-size.ensures in
    subst (λ (n : ℕ). end_in c.args.file.0 c.place_texts.new.self.files.files ≡ Some (c.in_ok-offset.offset + n)) same c.in_ok-offset.ensures.ends

pub returns-clause-ok : goal.returns-clause-ok
returns-clause-ok g c =
    let t = c.texts.result in
    let same : length ((t.0.now ++ t.1.now) ++ t.2.now) ≡ c.length-size.result = ap length c.texts.ensures ∙ sym c.length-size.ensures in
    rw (← same) c.in_ok-offset.ensures.ok
