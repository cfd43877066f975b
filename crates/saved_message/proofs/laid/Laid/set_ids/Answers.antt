use Rattle.std.proofs.Common.{subst, sym, arith, ◌++◌, ◌∙◌, ℕ, List, drop, length}
use Rattle.std.proofs.lemmas.List.{with_items_is}
use Rattle.saved_message.specs.Laid.{IsLaid, LaidValue, laid_of}
use Rattle.saved_message.specs.Saved.{ids_in}
use Rattle.saved_message.specs.References.{HasReferencesAt}
use Rattle.saved_message.proofs.LaidLemmas.{ids_laid, laid_references, parts_one_each, with_region}
use Rattle.saved_message.proofs.RegionLemmas.{after_references, before_references}
use Rattle.saved_message.proofs.TextsLemmas.{references_behind, rejoined}
use Rattle.saved_message.proofs.laid.Laid.set_ids.Goals as goal

pub put_ids-requires : goal.put_ids-requires
put_ids-requires c =
    let s = c.requires.laid in
    let before : List ℕ = c.self.inside.texts.front.items ++ c.self.inside.texts.body in
    let items : List ℕ = c.self.inside.texts.back.items in
    let at : ℕ = c.self.inside.refs_at in
    let v : LaidValue = laid_of before items c.self.inside.guid_at at c.self.inside.sizes.items in
    let was : IsLaid s.0 s.1 s.2 s.3 s.4 v = subst (λ (x : LaidValue). IsLaid s.0 s.1 s.2 s.3 s.4 x) (sym c.self.view_is) s.5 in
    let front : List ℕ = before_references s.0 s.1 s.2 s.4 in
    let back : List ℕ = after_references s.2.parts in
    let has = references_behind before front s.2.parts s.3 back 88 at c.self.inside.sizes.items items (laid_references s.0 s.1 s.2 s.3 s.4 v was) in
    let here = subst (λ (x : List ℕ). HasReferencesAt (drop (length before) front) s.2.parts s.3 back 88 at x items) (sym c.as_slice.ensures.value) has in
    record { standing = (drop (length before) front, s.2.parts, s.3, back, 88, subst (λ (x : List ℕ). HasReferencesAt (drop (length before) front) s.2.parts s.3 back 88 at c.as_slice.result.now x) (sym c.deref_mut.ensures.value) here, s.6) }

pub returns-clause-set : goal.returns-clause-set
returns-clause-set c = λ name time prepared ids guid is.
    let s = c.requires.laid in
    let put = c.put_ids.ensures in
    let many = s.6 ∙ parts_one_each c.args.self.now s.2 prepared s.5.sizes is.sizes in
    let before : List ℕ = c.self.inside.texts.front.items ++ c.self.inside.texts.body in
    let text : List ℕ = c.self.inside.texts.back.items in
    let at : ℕ = c.self.inside.refs_at in
    let v : LaidValue = laid_of before text c.self.inside.guid_at at c.self.inside.sizes.items in
    let was : IsLaid name time prepared ids guid v = subst (λ (x : LaidValue). IsLaid name time prepared ids guid x) (sym c.self.view_is) is in
    let front : List ℕ = before_references name time prepared guid in
    let back : List ℕ = after_references prepared.parts in
    let all = laid_references name time prepared ids guid v was in
    let begins = all.begin in
    let has = references_behind before front prepared.parts ids back 88 at c.self.inside.sizes.items text all in
    let here = subst (λ (x : List ℕ). HasReferencesAt (drop (length before) front) prepared.parts ids back 88 at x text) (sym c.as_slice.ensures.value) has in
    let there = subst (λ (x : List ℕ). HasReferencesAt (drop (length before) front) prepared.parts ids back 88 at c.as_slice.result.now x) (sym c.deref_mut.ensures.value) here in
    let items = with_items_is c.self.inside.texts.back c.put_ids.new.region (put.size ∙ c.deref_mut.ensures.len) in
    let set = rejoined before text c.put_ids.new.region front _ _ (omega (arith, begins)) all.stand (put.set (drop (length before) front) prepared.parts ids back 88 there many) in
    subst (λ (x : List ℕ). IsLaid name time prepared (ids_in c.args.rows.now) guid (with_region (before ++ x) v)) (sym items) (ids_laid name time prepared ids guid v c.args.rows.now (before ++ c.put_ids.new.region) was many put.ids set)
