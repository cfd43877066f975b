use Rattle.map_index.proofs.Common.{◌≡◌, ◌==◌, ◌∙◌, ℕ, List, sym, subst, refl, true, false, arith, list_any, MapUid, MapPlace, MapIndexValue}
use Rattle.std.proofs.Common.{not}
use Rattle.model_meaning.specs.MapMeaning.{has_map_uid}
use Rattle.map_rows.specs.TableKept.{AreTableRows}
use Rattle.map_index.proofs.FileWalkLemmas.{row_lies, row_walked, rows_walked, all_walked}
use Rattle.map_index.proofs.index.MapIndex.each_is_named.Goals as goal

-- a map uid is in one of the lists, and not in both
abbrev NamedOnce : List MapPlace → List MapUid → ℕ → Type 0
NamedOnce moved dropped uid = list_any (λ (p : MapPlace). p.uid.0 == uid) moved ≡ not (has_map_uid uid dropped)

pub loop-row-init : goal.loop-row-init
loop-row-init c = λ k d lt same before. absurd (omega (arith, before))

pub returns-then-not-is_named : goal.returns-then-not-is_named
returns-then-not-is_named c = (
  (λ h. absurd (let w : false ≡ true = h in cc w)),
  (λ each. sym c.if-not-is_named.true ∙ c.is_named.ensures.1 (row_walked c.args.self.now.meaning.records c.args.file.0 c.loop-row.from c.in-Some.row (NamedOnce c.args.moved.now c.args.dropped.now) (sym c.in-Some.is ∙ c.in_file.ensures) each)),
)

pub loop-row-preserved : goal.loop-row-preserved
loop-row-preserved c =
    let kept = subst (λ (v : MapIndexValue). AreTableRows v.meaning.records) c.self.view_is c.known_facts.ensures in
    rows_walked c.args.self.now.meaning.records c.args.file.0 c.loop-row.from c.in-Some.row (NamedOnce c.args.moved.now c.args.dropped.now) kept (sym c.in-Some.is ∙ c.in_file.ensures) (c.is_named.ensures.0 c.if-not-is_named.false) c.loop-row.invariant

pub overflow_add-from : goal.overflow_add-from
overflow_add-from c =
    let kept = subst (λ (v : MapIndexValue). AreTableRows v.meaning.records) c.self.view_is c.known_facts.ensures in
    let lies = row_lies c.args.self.now.meaning.records c.args.file.0 c.loop-row.from c.in-Some.row kept (sym c.in-Some.is ∙ c.in_file.ensures) in
    let ends = lies.2 in
    omega (arith, ends)

pub loop-row-smaller : goal.loop-row-smaller
loop-row-smaller c =
    let kept = subst (λ (v : MapIndexValue). AreTableRows v.meaning.records) c.self.view_is c.known_facts.ensures in
    let lies = row_lies c.args.self.now.meaning.records c.args.file.0 c.loop-row.from c.in-Some.row kept (sym c.in-Some.is ∙ c.in_file.ensures) in
    let low = lies.0 in
    let some = lies.1 in
    let ends = lies.2 in
    omega (arith, low, some, ends)

pub returns : goal.returns
returns c = ((λ h. all_walked c.args.self.now.meaning.records c.args.file.0 c.loop-row.from (NamedOnce c.args.moved.now c.args.dropped.now) (sym c.in_default.is ∙ c.in_file.ensures) c.loop-row.invariant), (λ p. refl))
