-- What a fetch holds of a message.
use Rattle.mail_fetch.proofs.Common.{◌≡◌, ◌≤◌, ◌<◌, ◌+◌, ◌++◌, ℕ, List, [], length, take, drop, sym, ◌∙◌, ap, subst, arith, All, append-nil, append_assoc, length-append, take-append_seam, take_all, ExtRef, octets_to_read, HoldsWhole, IsStoredMessage, StoredAt}
use Rattle.std.specs.Prelude.{IfSome, vec_capacity}
use Rattle.std.specs.Global.{Vec}
use Rattle.std.proofs.Math.Seq.{drop-append_seam}
use Rattle.std.proofs.lemmas.List.{length-take-le, take-append-drop}
use Rattle.attach_join.specs.Behind.{octets_in}
use Rattle.attach_join.specs.Kept.{FitInto, kept_in}
use Rattle.attach_join.specs.Spread.{outside}
use Rattle.attach_join.proofs.KeptLemmas.{kept_length, sizes_within}
use Rattle.model_attach.specs.Rejoined.{IsWhole}
use Rattle.model_base64.specs.Base64Text.{IsForm}
use Rattle.mail_fetch.specs.Held.{HasOctetRoom, HoldsPart, IsLost, IsSpread, octets_of_instances, octets_held}
use Rattle.mail_fetch.specs.Room.{IsCut}
use Rattle.mail_fetch.specs.declared.held.Held.{Held}
use Rattle.mail_fetch.specs.declared.held.Held.TheVariants as held
use Rattle.mail_fetch.proofs.BodyLemmas.{FoundStored, stands_behind}
use Rattle.mail_fetch.proofs.MessageLemmas.{IsCutAt, joined_of_whole, references_fit}

-- ---- a body that is spread

-- what is read of a message whose body is spread
abbrev pub read_spread : StoredAt → List ℕ → List ℕ → List ℕ → List ExtRef → ℕ → List ℕ
read_spread from head whole tail refs kept = head ++ (outside refs whole ++ (tail ++ take kept (kept_in refs from.instances whole)))

pub forms_of_spread : (from : StoredAt) (head whole tail : List ℕ) (refs : List ExtRef) (kept : ℕ) → IsSpread from head whole tail refs kept → All (λ ref. IfSome ref.form IsForm) refs
forms_of_spread from head whole tail refs kept s = subst (All (λ (ref : ExtRef). IfSome ref.form IsForm)) (sym s.refs_are) (references_fit s.stored.message.lines s.stored.meta.refs s.stored.says.refs)

-- the region, and behind it what is kept
pub spread_parts : (from : StoredAt) (head whole tail : List ℕ) (refs : List ExtRef) (kept : ℕ) → read_spread from head whole tail refs kept ≡ (head ++ (outside refs whole ++ tail)) ++ take kept (kept_in refs from.instances whole)
spread_parts from head whole tail refs kept =
    let rest : List ℕ = take kept (kept_in refs from.instances whole) in
    ap (λ (xs : List ℕ). head ++ xs) (sym (append_assoc (outside refs whole) tail rest)) ∙ sym (append_assoc head (outside refs whole ++ tail) rest)

pub kept_many : (from : StoredAt) (head whole tail : List ℕ) (refs : List ExtRef) (kept : ℕ) → IsSpread from head whole tail refs kept → length (kept_in refs from.instances whole) ≡ octets_of_instances from
kept_many from head whole tail refs kept s = kept_length s.fit.0 refs from.instances whole s.fit.1 (forms_of_spread from head whole tail refs kept s)

pub spread_length : (from : StoredAt) (head whole tail : List ℕ) (refs : List ExtRef) (kept : ℕ) → IsSpread from head whole tail refs kept → length (read_spread from head whole tail refs kept) ≡ from.size + kept
spread_length from head whole tail refs kept s =
    let all = ap length (spread_parts from head whole tail refs kept) in
    let both = length-append (head ++ (outside refs whole ++ tail)) (take kept (kept_in refs from.instances whole)) in
    let size = s.size in
    let many = kept_many from head whole tail refs kept s in
    let few = s.few in
    let rest = length-take-le kept (kept_in refs from.instances whole) (omega (arith, many, few)) in
    omega (arith, all, both, size, rest)

-- there is room for more octets of the instances
pub keep_room : (from : StoredAt) (head : List ℕ) (h : Held) (whole : Vec ℕ) (refs : Vec ExtRef) (tail : Vec ℕ) (kept left count : ℕ) → h ≡ held.Spread whole refs tail kept → HoldsPart from head left h → length (head ++ octets_held from.instances h) + count ≤ octets_to_read from
    → kept + count ≤ octets_of_instances from
keep_room from head h whole refs tail kept left count is s room =
    let spread : IsSpread from head whole.items tail.items refs.items kept = subst (HoldsPart from head left) is s in
    let there = ap (λ (x : Held). length (head ++ octets_held from.instances x)) is in
    let long = spread_length from head whole.items tail.items refs.items kept spread in
    omega (arith, there, long, room)

pub spread_on : (from : StoredAt) (head : List ℕ) (h : Held) (whole : Vec ℕ) (refs : Vec ExtRef) (tail : Vec ℕ) (new : List ℕ) (kept left count : ℕ) → h ≡ held.Spread whole refs tail kept → HoldsPart from head left h → outside refs.items new ≡ outside refs.items whole.items → length new ≡ length whole.items
    → kept + count ≤ octets_of_instances from → IsSpread from head new tail.items refs.items (kept + count)
spread_on from head h whole refs tail new kept left count is held_is same size few =
    let s : IsSpread from head whole.items tail.items refs.items kept = subst (HoldsPart from head left) is held_is in
    let moved = subst (λ (xs : List ℕ). (stored : IsStoredMessage from (head ++ (xs ++ tail.items))) × (xs ≡ stored.message.body) × (refs.items ≡ stored.meta.refs) × (length (head ++ (xs ++ tail.items)) ≡ from.size)) (sym same) (s.stored, s.body, s.refs_are, s.size) in
    record {
      stored = moved.0;
      body = moved.1;
      refs_are = moved.2;
      size = moved.3;
      listed = size ∙ s.listed;
      fit = (s.fit.0, subst (λ (n : ℕ). FitInto n s.fit.0 refs.items from.instances) (sym size) s.fit.1);
      few = few;
    }

-- a vector whose octets were written over
pub written_over : (new old : List ℕ) (len : ℕ) → length new ≡ len → take len (new ++ drop (length new) old) ≡ new
written_over new old len is = ap (λ (n : ℕ). take n (new ++ drop (length new) old)) (sym is) ∙ take-append_seam new (drop (length new) old)

-- ---- what is damaged

-- a piece more is one of those that may come
pub lost_on : (from : StoredAt) (read new piece : List ℕ) (left : ℕ) → new ≡ read ++ piece → IsLost from read (left + length piece) → IsLost from new left
lost_on from read new piece left is lost more whole few h =
    let both = length-append piece more in
    lost (piece ++ more) whole (omega (arith, both, few)) (subst (λ (xs : List ℕ). HoldsWhole from xs whole) (ap (λ (xs : List ℕ). xs ++ more) is ∙ append_assoc read piece more) h)

pub damaged_on : (from : StoredAt) (head new_head : List ℕ) (h : Held) (octets new : Vec ℕ) (piece : List ℕ) (left : ℕ) → h ≡ held.Damaged octets → HoldsPart from head (left + length piece) h → new_head ++ new.items ≡ (head ++ octets.items) ++ piece
    → IsCut new_head new.items → vec_capacity octets ≤ vec_capacity new → HasOctetRoom from new_head new × IsLost from (new_head ++ new.items) left
damaged_on from head new_head h octets new piece left is held_is read cut more =
    let d : HasOctetRoom from head octets × IsLost from (head ++ octets.items) (left + length piece) = subst (HoldsPart from head (left + length piece)) is held_is in
    (record { cut = cut; room = let room = d.0.room in omega (arith, room, more) }, lost_on from (head ++ octets.items) (new_head ++ new.items) piece left read d.1)

-- where the region ends, and what is behind it
pub region_ends : (from : StoredAt) (head octets more : List ℕ) → length (head ++ octets) ≡ from.size → length ((head ++ octets) ++ more) ≡ octets_to_read from → IsCutAt from head (octets ++ more) octets more
region_ends from head octets more size long =
    let same = append_assoc head octets more in
    record {
      long = ap length (sym same) ∙ long;
      region = ap (λ (n : ℕ). take n (head ++ (octets ++ more))) (sym size) ∙ ap (take (length (head ++ octets))) (sym same) ∙ take-append_seam (head ++ octets) more;
      rest = ap (λ (n : ℕ). drop n (head ++ (octets ++ more))) (sym size) ∙ ap (drop (length (head ++ octets))) (sym same) ∙ drop-append_seam (head ++ octets) more;
    }

-- a region whose body has no whole with instances of these sizes
pub lost_unfit : (from : StoredAt) (head octets : List ℕ) (size left : ℕ) (refs : List ExtRef) → FoundStored from head octets size refs → length (head ++ octets) ≡ from.size
    → ((text body instances : List ℕ) → IsWhole text body refs (octets_in from.instances instances) → length body ≡ size → octets_of_instances from ≤ length instances → length text ≡ from.listed → ⊥) → IsLost from (head ++ octets) left
lost_unfit from head octets size left refs f long none more whole few h =
    let cut = region_ends from head octets more long h.long in
    let all = length-append (head ++ octets) more in
    let total = h.long in
    none whole (take size octets) more (joined_of_whole from head (octets ++ more) octets more whole size refs cut f (subst (λ (xs : List ℕ). HoldsWhole from xs whole) (append_assoc head octets more) h))
    (length-take-le size octets f.within) (omega (arith, all, total, long)) h.size

-- a region that isn't the message that is stored there
pub lost_stored : (from : StoredAt) (head octets : List ℕ) (left : ℕ) → length (head ++ octets) ≡ from.size → (IsStoredMessage from (head ++ octets) → ⊥) → IsLost from (head ++ octets) left
lost_stored from head octets left long none more whole few h =
    let cut = region_ends from head octets more long h.long in
    none (subst (IsStoredMessage from) (ap (take from.size) (append_assoc head octets more) ∙ cut.region) h.stored)

-- octets that are missing
pub lost_short : (from : StoredAt) (read : List ℕ) (left : ℕ) → length read < from.size → left ≤ octets_of_instances from → IsLost from read left
lost_short from read left short most more whole few h =
    let all = length-append read more in
    let total = h.long in
    absurd (omega (arith, all, total, short, most, few))

-- ---- the whole

-- Once all octets of the instances are kept, what is written is the message.
pub spread_is_whole : (from : StoredAt) (head whole tail octets : List ℕ) (refs : List ExtRef) (kept : ℕ) → IsSpread from head whole tail refs kept → kept ≡ octets_of_instances from → length octets ≡ length whole
    → IsWhole octets (outside refs whole) refs (octets_in from.instances (kept_in refs from.instances whole)) → HoldsWhole from (read_spread from head whole tail refs kept) octets
spread_is_whole from head whole tail octets refs kept s all size joined =
    let rest : List ℕ = take kept (kept_in refs from.instances whole) in
    let region : List ℕ = head ++ (outside refs whole ++ tail) in
    let parts = spread_parts from head whole tail refs kept in
    let many = kept_many from head whole tail refs kept s in
    let full : rest ≡ kept_in refs from.instances whole = take_all kept (kept_in refs from.instances whole) (omega (arith, many, all)) in
    let front : take from.size (region ++ rest) ≡ region = ap (λ (n : ℕ). take n (region ++ rest)) (sym s.size) ∙ take-append_seam region rest in
    let back : drop from.size (region ++ rest) ≡ kept_in refs from.instances whole = ap (λ (n : ℕ). drop n (region ++ rest)) (sym s.size) ∙ drop-append_seam region rest ∙ full in
    let long = spread_length from head whole tail refs kept s in
    let body : IsWhole octets s.stored.message.body s.stored.meta.refs (octets_in from.instances (kept_in refs from.instances whole)) =
    subst (λ (rs : List ExtRef). IsWhole octets s.stored.message.body rs (octets_in from.instances (kept_in refs from.instances whole))) s.refs_are
    (subst (λ (b : List ℕ). IsWhole octets b refs (octets_in from.instances (kept_in refs from.instances whole))) s.body joined) in
    subst (λ (xs : List ℕ). HoldsWhole from xs octets) (sym parts)
    (holds_as from (region ++ rest) region (kept_in refs from.instances whole) octets (ap length (sym parts) ∙ long ∙ ap (λ (n : ℕ). from.size + n) all) front back s.stored body (size ∙ s.listed))
  where
    holds_as : (from : StoredAt) (read region instances octets : List ℕ) → length read ≡ octets_to_read from → take from.size read ≡ region → drop from.size read ≡ instances → (s : IsStoredMessage from region)
        → IsWhole octets s.message.body s.meta.refs (octets_in from.instances instances) → length octets ≡ from.listed → HoldsWhole from read octets
    holds_as from read region instances octets long front back =
        subst (λ (xs : List ℕ). (s : IsStoredMessage from xs) → IsWhole octets s.message.body s.meta.refs (octets_in from.instances instances) → length octets ≡ from.listed → HoldsWhole from read octets) front
        (λ s whole size. record { long = long; stored = s; whole = subst (λ (xs : List ℕ). IsWhole octets s.message.body s.meta.refs (octets_in from.instances xs)) (sym back) whole; size = size })

-- before that it isn't
pub spread_too_few : (from : StoredAt) (head whole tail octets : List ℕ) (refs : List ExtRef) (kept : ℕ) → IsSpread from head whole tail refs kept → (kept ≡ octets_of_instances from → ⊥) → HoldsWhole from (read_spread from head whole tail refs kept) octets → ⊥
spread_too_few from head whole tail octets refs kept s differs h =
    let long = spread_length from head whole tail refs kept s in
    let total = h.long in
    differs (omega (arith, long, total))

-- nothing more comes
pub lost_now : (from : StoredAt) (read octets : List ℕ) (left : ℕ) → IsLost from read left → HoldsWhole from read octets → ⊥
lost_now from read octets left lost h = lost [] octets (omega arith) (subst (λ (xs : List ℕ). HoldsWhole from xs octets) (sym (append-nil read)) h)

-- ---- what is held

-- fewer octets may come
pub held_less : (from : StoredAt) (head : List ℕ) (less left : ℕ) (h : Held) → less ≤ left → HoldsPart from head left h → HoldsPart from head less h
held_less from head less left (held.AsRead octets refs tail) le h = h
held_less from head less left (held.Spread whole refs tail kept) le h = h
held_less from head less left (held.Damaged octets) le h = (h.0, λ more whole few. h.1 more whole (omega (arith, few, le)))

pub kept_small : (from : StoredAt) (head : List ℕ) (h : Held) (whole : Vec ℕ) (refs : Vec ExtRef) (tail : Vec ℕ) (kept left : ℕ) → h ≡ held.Spread whole refs tail kept → HoldsPart from head left h → octets_of_instances from ≤ length whole.items
kept_small from head h whole refs tail kept left is held_is =
    let s : IsSpread from head whole.items tail.items refs.items kept = subst (HoldsPart from head left) is held_is in
    sizes_within s.fit.0 (length whole.items) refs.items from.instances s.fit.1 (forms_of_spread from head whole.items tail.items refs.items kept s)

-- the body of the region that was read is spread
pub spread_begins : (from : StoredAt) (head octets whole tail : List ℕ) (refs : List ExtRef) (size count : ℕ) → FoundStored from head octets size refs → length (head ++ octets) ≡ from.size → outside refs whole ≡ take size octets → tail ≡ drop size octets
    → length whole ≡ from.listed → FitInto (length whole) count refs from.instances → IsSpread from head whole tail refs 0
spread_begins from head octets whole tail refs size count f long out tail_is listed fit =
    let text : outside refs whole ++ tail ≡ octets = ap (λ (xs : List ℕ). xs ++ tail) out ∙ ap (λ (xs : List ℕ). take size octets ++ xs) tail_is ∙ take-append-drop size octets in
    let moved = subst (λ (xs : List ℕ). (stored : IsStoredMessage from xs) × (take size octets ≡ stored.message.body) × (refs ≡ stored.meta.refs)) (ap (λ (xs : List ℕ). head ++ xs) (sym text)) (f.stored, f.body, f.refs_are) in
    record {
      stored = moved.0;
      body = out ∙ moved.1;
      refs_are = moved.2;
      size = ap (λ (xs : List ℕ). length (head ++ xs)) text ∙ long;
      listed = listed;
      fit = (count, fit);
      few = omega arith;
    }

-- how many octets stand behind the body of a message
pub block_few : (from : StoredAt) (head octets : List ℕ) (size : ℕ) (refs : List ExtRef) → length head ≡ 30 → FoundStored from head octets size refs → length octets ≤ size + 1048576
block_few from head octets size refs whole f =
    let s = stands_behind from head octets whole f.stored in
    let all = ap length s.behind_is in
    let parts = length-append f.stored.message.body s.block in
    let short = s.ends.short in
    let body = f.size_is in
    omega (arith, all, parts, short, body)
