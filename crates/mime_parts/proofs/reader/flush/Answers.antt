use Rattle.std.proofs.Common.{◌≡◌, ◌<◌, ◌≤◌, ◌⊎◌, inl, inr, ap}
use Rattle.model_mime.specs.Parts.{is_other}
use Rattle.mime_parts.proofs.StepLemmas.{is_leaf}
use Rattle.model_mime.specs.declared.mime.Kind.{Kind}
use Rattle.mime_parts.proofs.ReaderLemmas.{head_multipart, head_leaf, other_kind}
use Rattle.mime_parts.proofs.reader.flush.Goals as goal
use Rattle.mime_parts.proofs.reader.flush.Goals.{then-start-end, else-start-end}

pub returns-in-Multipart : goal.returns-in-Multipart
returns-in-Multipart c =
    let two : (c.in-Head.start < c.args.end) × (c.if-start-end.from ≡ c.in-Head.start) ⊎ (c.args.end ≤ c.in-Head.start) × (c.if-start-end.from ≡ c.args.end) =
    elim c.if-start-end.branch [ then-start-end w ↦ inl (w.if-start-end.true, w.from-is) | else-start-end w ↦ inr (w.if-start-end.false, w.from-is) ] in
    head_multipart c.args.message.now c.in-Head.start c.if-start-end.from c.args.end c.args.place c.read_fields-fields.result c.in-Multipart.field-0 c.in-Head.is two c.read_fields-fields.ensures c.in-Multipart.is

pub returns-in-Other : goal.returns-in-Other
returns-in-Other c =
    let two : (c.in-Head.start < c.args.end) × (c.if-start-end.from ≡ c.in-Head.start) ⊎ (c.args.end ≤ c.in-Head.start) × (c.if-start-end.from ≡ c.args.end) =
    elim c.if-start-end.branch [ then-start-end w ↦ inl (w.if-start-end.true, w.from-is) | else-start-end w ↦ inr (w.if-start-end.false, w.from-is) ] in
    head_leaf c.args.message.now c.in-Head.start c.if-start-end.from c.args.end c.args.place c.read_fields-fields.result _ _ c.in-Head.is two c.read_fields-fields.ensures (ap (λ (k : Kind). is_leaf k) c.in-Other.is) (ap (λ (k : Kind). is_other k) c.in-Other.is) c.make_part.ensures

pub returns-in_default : goal.returns-in_default
returns-in_default c =
    let two : (c.in-Head.start < c.args.end) × (c.if-start-end.from ≡ c.in-Head.start) ⊎ (c.args.end ≤ c.in-Head.start) × (c.if-start-end.from ≡ c.args.end) =
    elim c.if-start-end.branch [ then-start-end w ↦ inl (w.if-start-end.true, w.from-is) | else-start-end w ↦ inr (w.if-start-end.false, w.from-is) ] in
    let both = other_kind c.read_fields-fields.result.kind c.in_default.not-Multipart c.in_default.not-Other in
    head_leaf c.args.message.now c.in-Head.start c.if-start-end.from c.args.end c.args.place c.read_fields-fields.result _ _ c.in-Head.is two c.read_fields-fields.ensures both.0 both.1 c.make_part-in_default.ensures
