use Rattle.std.proofs.Common.{◌≡◌, ◌+◌, ℕ, List, take, drop, sym, ◌∙◌, ap}
use Rattle.std.specs.Int.{w32, from_be_bytes}
use Rattle.model_logs.specs.LogFile.{kind_letter}
use Rattle.gate_log.proofs.HeadLemmas.{octets_of, digit_of, other_name, short_name, other_digit, short_kind, other_kind, short_head, whole_head}
use Rattle.gate_log.proofs.head.read_head.Goals as goal

pub returns-in-Some : goal.returns-in-Some
returns-in-Some c = other_name c.args.octets.now c.in-Some.place (octets_of c.args.octets.now c.type_inv.octets) (sym c.first_difference.ensures ∙ c.in-Some.is)

pub returns-then-octets-le-VERSION_PLACE : goal.returns-then-octets-le-VERSION_PLACE
returns-then-octets-le-VERSION_PLACE c = short_name c.args.octets.now (octets_of c.args.octets.now c.type_inv.octets) (sym c.first_difference.ensures ∙ c.in_default.is) c.if-octets-le-VERSION_PLACE.true

pub returns-in_default-version_with : goal.returns-in_default-version_with
returns-in_default-version_with c = other_digit c.args.octets.now (octets_of c.args.octets.now c.type_inv.octets) (sym c.first_difference.ensures ∙ c.in_default.is) c.if-octets-le-VERSION_PLACE.false c.in_default-version_with.ensures

pub returns-then-octets-le-KIND_PLACE : goal.returns-then-octets-le-KIND_PLACE
returns-then-octets-le-KIND_PLACE c =
    let v = c.in-Some-version_with.ensures in
    short_kind c.args.octets.now (octets_of c.args.octets.now c.type_inv.octets) (sym c.first_difference.ensures ∙ c.in_default.is) (digit_of _ c.args.octets.now v.0 v.1) c.if-octets-le-KIND_PLACE.true

pub returns-in_default-kind_with : goal.returns-in_default-kind_with
returns-in_default-kind_with c =
    let v = c.in-Some-version_with.ensures in
    other_kind c.args.octets.now c.in-Some-version_with.version (octets_of c.args.octets.now c.type_inv.octets) (sym c.first_difference.ensures ∙ c.in_default.is) v.0 v.1 c.if-octets-le-KIND_PLACE.false c.in_default-kind_with.ensures

pub returns-then-octets-le-HEAD_SIZE : goal.returns-then-octets-le-HEAD_SIZE
returns-then-octets-le-HEAD_SIZE c =
    let v = c.in-Some-version_with.ensures in
    let k = c.in-Some-kind_with.ensures in
    short_head c.args.octets.now (octets_of c.args.octets.now c.type_inv.octets) (sym c.first_difference.ensures ∙ c.in_default.is) (c.in-Some-kind_with.kind, c.in-Some-version_with.version, k.0, k.1, v.0) c.if-octets-le-HEAD_SIZE.true

pub returns : goal.returns
returns c =
    let v = c.in-Some-version_with.ensures in
    let k = c.in-Some-kind_with.ensures in
    let front : c.split_at.result.0.now ≡ take 25 c.args.octets.now = c.split_at.ensures.front in
    let same_version : c.head_in.result.version ≡ c.in-Some-version_with.version = c.head_in.ensures.version in
    let same_kind : c.head_in.result.kind ≡ c.in-Some-kind_with.kind = c.head_in.ensures.kind in
    let r = whole_head c.args.octets.now c.head_in.result (octets_of c.args.octets.now c.type_inv.octets) (sym c.first_difference.ensures ∙ c.in_default.is) c.if-octets-le-HEAD_SIZE.false
    (rw (same_version, same_kind) k.0)
    (ap (λ (n : ℕ). 48 + n) same_version ∙ v.0)
    (ap kind_letter same_kind ∙ k.1)
    (c.head_in.ensures.store ∙ ap (λ (t : List ℕ). take 8 (drop 8 t)) front)
    (c.head_in.ensures.number ∙ ap (λ (t : List ℕ). from_be_bytes w32 (take 4 (drop 17 t))) front)
    (c.head_in.ensures.generation ∙ ap (λ (t : List ℕ). from_be_bytes w32 (drop 21 t)) front) in
    (r.0, c.if-octets-le-HEAD_SIZE.false, r.1)
