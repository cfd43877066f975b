use Rattle.std.proofs.Common.{◌≡◌, ◌<◌, ◌+◌, ℕ, Bool, true, false, ◌||◌, ◌&&◌, cond, List, length, slice_index, take, sym, ◌∙◌, ap, arith, get_or}
use Rattle.disk_model.specs.Name.{same_name}
use Rattle.disk_model.specs.declared.name.FileName.{FileName}
use Rattle.disk_mem.specs.declared.text.Text.{Text}
use Rattle.disk_mem.specs.declared.note.Note.{Note}
use Rattle.disk_mem.specs.Left.{touched, touched_by}
use Rattle.disk_mem.proofs.FollowingLemmas.{take-next, touched-push}
use Rattle.disk_mem.proofs.image.tear.Goals as goal
use Rattle.disk_mem.proofs.image.tear.Goals.{then-is_named, else-is_named}

torn_more : (before own by : Bool) (octet old now : ℕ) → now ≡ cond (own && by) octet (cond before octet old) → now ≡ cond (before || (own && by)) octet old
torn_more true true true octet old now e = e
torn_more true true false octet old now e = e
torn_more true false by octet old now e = e
torn_more false true by octet old now e = e
torn_more false false by octet old now e = e

torn_next : (name : FileName) (notes : List Note) (i : ℕ) (note : Note) (k octet old before now : ℕ) → i < length notes → note ≡ get_or notes i note
    → before ≡ cond (touched name (take i notes) k) octet old → now ≡ cond (same_name name note.name && touched_by note.change k) octet before
    → now ≡ cond (touched name (take (i + 1) notes) k) octet old
torn_next name notes i note k octet old before now below is was e =
    torn_more (touched name (take i notes) k) (same_name name note.name) (touched_by note.change k) octet old now
    (e ∙ ap (cond (same_name name note.name && touched_by note.change k) octet) was)
    ∙ ap (λ b. cond b octet old) (sym (ap (λ front. touched name front k) (take-next notes i note below is) ∙ touched-push name (take i notes) note k))

pub loop-note-preserved : goal.loop-note-preserved
loop-note-preserved c =
    let is = c.loop-note.invariant in
    let i = c.loop-note.note-index in
    let notes = c.args.notes.now in
    let note = c.note-item.result in
    elim c.if-is_named.branch [
      | then-is_named w ↦
          let own : same_name c.args.name note.name ≡ true = sym c.is_named.ensures ∙ w.if-is_named.true in (
            ap (λ (text : Text). length text.octets.items) w.text-is ∙ w.tear_by.ensures.length ∙ is.0,
            λ k below. torn_next c.args.name notes i note k c.args.octet _ _ _ c.loop-note-test.true c.note-item.is (is.1 k below)
                (ap (λ (text : Text). slice_index text.octets.items k) w.text-is ∙ w.tear_by.ensures.octets k (omega (arith, is.0))
                ∙ ap (λ b. cond (b && touched_by note.change k) c.args.octet (slice_index c.loop-note.text.octets.items k)) (sym own)),
          )
      | else-is_named w ↦
          let other : same_name c.args.name note.name ≡ false = sym c.is_named.ensures ∙ w.if-is_named.false in (
            ap (λ (text : Text). length text.octets.items) w.text-is ∙ is.0,
            λ k below. torn_next c.args.name notes i note k c.args.octet _ _ _ c.loop-note-test.true c.note-item.is (is.1 k below)
                (ap (λ (text : Text). slice_index text.octets.items k) w.text-is
                ∙ ap (λ b. cond (b && touched_by note.change k) c.args.octet (slice_index c.loop-note.text.octets.items k)) (sym other)),
          )
    ]
