use Rattle.std.proofs.Common.{rules, Ok, Err, sym, ◌∙◌}
use Rattle.std.proofs.lemmas.List.Sorted.{answers_always}
use Rattle.store_files.proofs.PlaceLemmas.{searched}
use Rattle.store_files.proofs.BarredLemmas.{number_key, bars_none, bars_absent, bars_one, bars_no_end}
use Rattle.store_files.proofs.barred.bar_file.Goals as goal

pub returns-then-not-is_own : goal.returns-then-not-is_own
returns-then-not-is_own c = bars_none c.args.id.0 c.args.guid.0 c.args.states.now (sym c.is_own.ensures ∙ c.if-not-is_own.true)

pub returns-then-states-at : goal.returns-then-states-at
returns-then-states-at c =
    let by_key = c.in-Ok.ensures.position (λ s. s.file.0) (answers_always _ _ _ (λ f a r g called. search rules)) in
    let s = (searched number_key c.args.states.now c.file_of.result c.requires.rising (Ok c.in-Ok.at) c.in-Ok.ensures.bound by_key).found in
    bars_one c.args.id.0 c.args.guid.0 c.args.states.now c.in-Ok.at c.from.result s.0 _ c.requires.rising s.1 (s.2 ∙ c.file_of.ensures) (sym c.is_own.ensures ∙ c.if-not-is_own.false) (c.from.ensures ∙ c.offset_of.ensures) c.if-states-at.true

pub returns-else-states-at : goal.returns-else-states-at
returns-else-states-at c =
    let by_key = c.in-Ok.ensures.position (λ s. s.file.0) (answers_always _ _ _ (λ f a r g called. search rules)) in
    let s = (searched number_key c.args.states.now c.file_of.result c.requires.rising (Ok c.in-Ok.at) c.in-Ok.ensures.bound by_key).found in
    bars_no_end c.args.id.0 c.args.guid.0 c.args.states.now c.in-Ok.at c.from.result s.0 _ c.requires.rising s.1 (s.2 ∙ c.file_of.ensures) (c.from.ensures ∙ c.offset_of.ensures) c.if-states-at.false

pub returns-in_default : goal.returns-in_default
returns-in_default c =
    let by_key = c.in_default.ensures.position (λ s. s.file.0) (answers_always _ _ _ (λ f a r g called. search rules)) in
    let absent = (searched number_key c.args.states.now c.file_of.result c.requires.rising (Err c.in_default.field-0) c.in_default.ensures.bound by_key).absent in
    bars_absent c.args.id.0 c.args.guid.0 c.args.states.now (λ k d lt same. absent k d lt (same ∙ sym c.file_of.ensures))
