-- Where found messages stand in a storage file: one after another.
use Rattle.std.specs.Prelude.{◌≡◌, ◌≤◌, ◌+◌, ◌-◌, ℕ, List, [], ◌∷◌, ◌++◌, length, take, drop, refl, Result, Ok, Err}
use Rattle.std.proofs.Common.{sym, ◌∙◌, ap, subst, arith, append_assoc, append-nil, length-append}
use Rattle.std.proofs.lemmas.List.{length-drop, take_at, drop_at, drop-drop}
use Rattle.model_storage.specs.declared.places.MessageAt.{MessageAt}
use Rattle.model_storage.specs.declared.places.ScanError.{ScanError}
use Rattle.model_storage.specs.declared.places.ScanError.TheVariants as scan
use Rattle.model_storage.specs.StorageFile.{Message, IsMessage, AreMessages, place_at}
use Rattle.model_storage.proofs.FileLemmas.{message_some}
use Rattle.model_storage.proofs.ScanLemmas.{message_length}
use Rattle.model_found.specs.declared.reason.Reason.{Reason}
use Rattle.model_found.specs.Findings.{Finding, Stored, Unread, stored_from, IsFoundUpTo, HasFindingsBy, HasFindings}

-- a message stands in these octets at this place
pub record StandsIn (octets : List ℕ) (place : MessageAt) (m : Message) : Type 0 where
  pub first : List ℕ
  pub behind : List ℕ
  pub here : drop place.offset octets ≡ first ++ behind
  pub is_message : IsMessage first m
  pub ends : place.end ≡ place.offset + length first

-- what is found stands one after another, from this offset on
abbrev pub StandFrom : List ℕ → ℕ → List Finding → Type 0
StandFrom octets offset [] = Unit {0}
StandFrom octets offset (Stored place m ∷ rest) = (offset ≤ place.offset) × StandsIn octets place m × StandFrom octets place.end rest
StandFrom octets offset (Unread at why ∷ rest) = StandFrom octets offset rest

behind_first : (octets : List ℕ) (offset n : ℕ) (first rest : List ℕ) → drop offset octets ≡ first ++ rest → n ≡ offset + length first → drop n octets ≡ rest
behind_first octets offset n first rest e l = ap (λ (k : ℕ). drop k octets) l ∙ (sym (drop-drop (length first) offset octets) ∙ (ap (drop (length first)) e ∙ drop_at first rest (length first) refl))

pub stored_stand : (octets rest text : List ℕ) (offset : ℕ) (ms : List Message) (tail : List Finding) → drop offset octets ≡ text ++ rest → AreMessages text ms → ((n : ℕ) → StandFrom octets n tail) → StandFrom octets offset (stored_from offset ms ++ tail)
stored_stand octets rest text offset [] tail e are behind = behind offset
stored_stand octets rest text offset (m ∷ ms) tail e are behind =
    let place : MessageAt = place_at offset m in
    let here : drop offset octets ≡ are.0 ++ (are.1 ++ rest) = e ∙ (ap (λ (t : List ℕ). t ++ rest) are.2 ∙ append_assoc are.0 are.1 rest) in
    let ends : place.end ≡ offset + length are.0 = sym (message_length are.0 m offset are.3) in
    (omega arith, record { first = are.0; behind = are.1 ++ rest; here = here; is_message = are.3; ends = ends }, stored_stand octets rest are.1 place.end ms tail (behind_first octets offset place.end are.0 (are.1 ++ rest) here ends) are.4 behind)

-- after a header line
header_off : (octets header rest : List ℕ) → octets ≡ header ++ rest → drop (length header) octets ≡ rest
header_off octets header rest e = ap (drop (length header)) e ∙ drop_at header rest (length header) refl

up_to_stand : (octets : List ℕ) (offset : ℕ) (why : Reason) (findings : List Finding) → IsFoundUpTo octets offset why findings → (from : ℕ) × StandFrom octets from findings
up_to_stand octets offset why findings f = (
  length f.stops.header,
  subst (StandFrom octets (length f.stops.header)) (sym f.are)
      (stored_stand octets f.rest f.stops.front (length f.stops.header) f.stops.messages (Unread offset why ∷ []) (header_off octets f.stops.header (f.stops.front ++ f.rest) f.stops.parts) f.stops.whole (λ n. tt)),
)

one_unread : (octets : List ℕ) (why : Reason) (findings : List Finding) → findings ≡ Unread 0 why ∷ [] → (from : ℕ) × StandFrom octets from findings
one_unread octets why findings e = (0, subst (StandFrom octets 0) (sym e) tt)

by_answer : (octets : List ℕ) (answer : Result (List MessageAt) ScanError) (findings : List Finding) → HasFindingsBy octets answer findings → (from : ℕ) × StandFrom octets from findings
by_answer octets (Ok places) findings a = (
  length a.0,
  subst (StandFrom octets (length a.0)) (sym (a.4 ∙ sym (append-nil (stored_from (length a.0) a.1))))
      (stored_stand octets [] a.2.rest (length a.0) a.1 [] (header_off octets a.0 a.2.rest a.2.parts ∙ sym (append-nil a.2.rest)) a.2.follow (λ n. tt)),
)
by_answer octets (Err scan.BadHeader) findings a = one_unread octets _ findings a.1
by_answer octets (Err (scan.HeaderSize size)) findings a = one_unread octets _ findings a.1
by_answer octets (Err (scan.Truncated offset)) findings a = up_to_stand octets offset _ findings a.0
by_answer octets (Err (scan.BadMessage offset)) findings a = up_to_stand octets offset _ findings a.0
by_answer octets (Err scan.NoMemory) findings a = absurd a

pub found_stand : (octets : List ℕ) (findings : List Finding) → HasFindings octets findings → (from : ℕ) × StandFrom octets from findings
found_stand octets findings a = by_answer octets a.answer findings a.by

-- ---- the region of a message

pub region_is : (octets : List ℕ) (place : MessageAt) (m : Message) → (s : StandsIn octets place m) → (take (place.end - place.offset) (drop place.offset octets) ≡ s.first) × (place.offset + (place.end - place.offset) ≤ length octets) × (1 ≤ place.end - place.offset)
region_is octets place m s =
    let size : place.end - place.offset ≡ length s.first = (let e = s.ends in omega (arith, e)) in
    let long : length octets - place.offset ≡ length s.first + length s.behind = sym (length-drop place.offset octets) ∙ (ap length s.here ∙ length-append s.first s.behind) in
    let some : 1 ≤ length s.first = has_some s.first s.is_message in
    (ap (λ (n : ℕ). take n (drop place.offset octets)) size ∙ (ap (take (length s.first)) s.here ∙ take_at s.first s.behind (length s.first) refl), omega (arith, size, long, some), omega (arith, size, some))
  where
    has_some : (first : List ℕ) → IsMessage first m → 1 ≤ length first
    has_some [] p = absurd (message_some [] m p [] refl)
    has_some (x ∷ xs) p = omega arith
