-- A message whose GUID is new.
use Rattle.std.proofs.Common.{refl, ◌≡◌, ◌≤◌, ◌-◌, ℕ, Bool, true, false, List, length, min, sym, ◌∙◌, ap, arith}
use Rattle.std.proofs.lemmas.Bool.Decides.{nat_tests}
use Rattle.std.proofs.lemmas.List.{length-map}
use Rattle.std.specs.Option.{option_map_or}
use Rattle.std.specs.Prelude.{◌||◌, nat_le, nat_lt}
use Rattle.disk_model.specs.Disk.{Files}
use Rattle.mdbox_base.specs.declared.entries.InstRow.{InstRow}
use Rattle.mdbox_base.specs.declared.ids.Guid.{Guid}
use Rattle.model_found.specs.declared.reason.Reason.TheVariants as reason
use Rattle.model_storage.specs.declared.metadata_value.Metadata.{Metadata}
use Rattle.model_storage.specs.declared.places.MessageAt.{MessageAt}
use Rattle.model_taken.specs.Judging.{are_too_many, mailbox_for}
use Rattle.model_taken.specs.Taken.{TakenMessage}
use Rattle.rebuild_judge.proofs.MetLemmas.{full_is}
use Rattle.rebuild_judge.specs.declared.taken.Keeping.{Keeping}
use Rattle.rebuild_judge.specs.declared.taken.Outcome.TheVariants as outcome
use Rattle.rebuild_judge.specs.declared.taken.TakenRow.{TakenRow}
use Rattle.rebuild_judge.specs.Judges.{IsAdmitted}
use Rattle.rebuild_judge.specs.Kept.{AreKept, are_full, sized_rows, taken_row}

abbrev passes : Keeping → List ℕ → MessageAt → ℕ → Bool
passes keeping name place whole = are_full name keeping.mailboxes.items || (nat_le 4294967294 (length keeping.taken) || (nat_lt 67108864 whole || nat_lt 4294967295 place.end))

-- what passes a limit
limits_are : (files : Files) (taken : List TakenMessage) (keeping : Keeping) (name : List ℕ) (place : MessageAt) (whole : ℕ) → AreKept files taken keeping → passes keeping name place whole ≡ are_too_many taken name place whole
limits_are files taken keeping name place whole kept =
    let many : length keeping.taken ≡ length taken = ap length kept.rows ∙ length-map taken taken_row in
    ap (λ (n : ℕ). are_full name keeping.mailboxes.items || (nat_le 4294967294 n || (nat_lt 67108864 whole || nat_lt 4294967295 place.end))) many
    ∙ full_is taken name keeping.mailboxes.items (nat_le 4294967294 (length taken) || (nat_lt 67108864 whole || nat_lt 4294967295 place.end)) kept.mailboxes

last_two : (a b c d : Bool) → (a || (b || (c || d))) ≡ false → (c ≡ false) × (d ≡ false)
last_two true b c d e = absurd (cc e)
last_two false true c d e = absurd (cc e)
last_two false false true d e = absurd (cc e)
last_two false false false d e = (refl, e)

fits : (n most : ℕ) → nat_lt most n ≡ false → min n most ≡ n
fits n most t = let h = le n most t in omega (arith, h)
  where
    le : (n most : ℕ) → nat_lt most n ≡ false → n ≤ most
    le n most t = grind (arith, nat_tests, t)

pub is_too_many : (keeping : Keeping) (number : ℕ) (place : MessageAt) (meta : Metadata) (guid : Guid) (size : ℕ) (sizes : List ℕ) (name : List ℕ) (b : Bool) → name ≡ mailbox_for meta → b ≡ passes keeping name place size → b ≡ true
    → IsAdmitted keeping number place meta guid size sizes (outcome.Skipped reason.TooMany)
is_too_many keeping number place meta guid size sizes name b named is t files taken text kept long order =
    let many : are_too_many taken (mailbox_for meta) place size ≡ true =
    sym (limits_are files taken keeping (mailbox_for meta) place size kept) ∙ (ap (λ (n : List ℕ). passes keeping n place size) (sym named) ∙ (sym is ∙ t)) in
    rw many refl

-- the row that is made
abbrev made_row : ℕ → MessageAt → Guid → ℕ → ℕ → List ℕ → List InstRow → TakenRow
made_row number place guid time size name rows = record {
  file = record { 0 = number };
  offset = min place.offset 4294967295;
  size = min (place.end - place.offset) 4294967295;
  guid = guid;
  time = time;
  whole = min size 4294967295;
  mailbox = name;
  instances = rows;
}

pub is_admitted : (keeping : Keeping) (number : ℕ) (place : MessageAt) (meta : Metadata) (guid : Guid) (time size : ℕ) (sizes : List ℕ) (name : List ℕ) (rows : List InstRow) (b : Bool) → name ≡ mailbox_for meta → b ≡ passes keeping name place size → b ≡ false
    → time ≡ option_map_or (λ told. told) meta.received 0 → rows ≡ sized_rows meta.refs sizes → IsAdmitted keeping number place meta guid size sizes (outcome.Taken (made_row number place guid time size name rows))
is_admitted keeping number place meta guid time size sizes name rows b named is t timed sized files taken text kept long order =
    let passed : passes keeping (mailbox_for meta) place size ≡ false = ap (λ (n : List ℕ). passes keeping n place size) (sym named) ∙ (sym is ∙ t) in
    let many : are_too_many taken (mailbox_for meta) place size ≡ false = sym (limits_are files taken keeping (mailbox_for meta) place size kept) ∙ passed in
    let two = last_two (are_full (mailbox_for meta) keeping.mailboxes.items) (nat_le 4294967294 (length keeping.taken)) (nat_lt 67108864 size) (nat_lt 4294967295 place.end) passed in
    let whole = fits size 67108864 two.0 in
    let end = fits place.end 4294967295 two.1 in
    let offset_is : min place.offset 4294967295 ≡ place.offset = omega (arith, end, order) in
    let size_is : min (place.end - place.offset) 4294967295 ≡ place.end - place.offset = omega (arith, end) in
    let whole_is : min size 4294967295 ≡ length text = omega (arith, whole, long) in
    rw many (rw (offset_is, size_is, whole_is, named, timed, sized) refl)
