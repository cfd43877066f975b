-- The one message that a region is, and what its lines say.
use Rattle.std.proofs.Common.{◌≡◌, ◌≤◌, ◌+◌, ◌-◌, ℕ, List, [], ◌∷◌, ◌++◌, length, take, drop, refl, sym, ◌∙◌, ap, subst, arith, append_assoc, append-nil, length-append, inl, inr}
use Rattle.std.specs.Prelude.{flat_map, ◌⊎◌, ◌↔◌, Bool, true, false, IsTrue, Option, Some, None, IfNone, Result, Ok, Err}
use Rattle.std.specs.Result.{result_ok}
use Rattle.std.proofs.Math.Seq.{drop-append_seam, take-append_seam}
use Rattle.dbox_metadata.specs.MetadataRead.{MetadataGives}
use Rattle.dbox_metadata.specs.declared.error.MetaError.{MetaError}
use Rattle.mdbox_base.specs.declared.ids.Guid.{Guid}
use Rattle.dbox_metadata.specs.declared.error.MetaError.TheVariants as bad
use Rattle.model_storage.specs.declared.places.MessageAt.{MessageAt}
use Rattle.model_storage.specs.declared.places.PlaceError.{PlaceError}
use Rattle.model_storage.specs.declared.places.PlaceError.TheVariants as place_error
use Rattle.model_storage.specs.StorageFile.{Line, AreLines, Message, IsMessageHeader, IsMessage, StandsAt, StandsNone, PlaceGives, line_text, place_at}
use Rattle.model_storage.specs.Metadata.{IsMetadata, IsMetadataText}
use Rattle.model_storage.specs.declared.metadata_value.Metadata.{Metadata}
use Rattle.model_storage.proofs.FileLemmas.{message_same}
use Rattle.model_storage.proofs.MetadataLemmas.{lines_same, metadata_text_same, no_bad_line}
use Rattle.model_storage.proofs.ScanLemmas.{message_length}
use Rattle.resync_task.specs.Damage.{IsMessageWith, IsOneMessage, LinesSay}

no_more : (xs ys : List ℕ) (n : ℕ) → length xs ≡ n → length (xs ++ ys) ≡ n → ys ≡ []
no_more xs [] n a b = refl
no_more xs (y ∷ ys) n a b = absurd (let h = length-append xs (y ∷ ys) in omega (arith, h, a, b))

pub one_message : (region : List ℕ) (place : MessageAt) → StandsAt region 0 place → place.end ≡ length region → IsOneMessage region place
one_message region place (first, behind, m, e, spelled, is) ends =
    let size = message_length first m 0 spelled in
    let at : place.end ≡ (place_at 0 m).end = ap (λ (p : MessageAt). p.end) is in
    let none : behind ≡ [] = no_more first behind (length region) (omega (arith, size, at, ends)) (ap length (sym e)) in
    record { message = m; spelled = subst (λ (xs : List ℕ). IsMessage xs m) (sym (e ∙ (ap (λ (b : List ℕ). first ++ b) none ∙ append-nil first))) spelled; place_is = is }

pub header_length : (header : List ℕ) (n : ℕ) → IsMessageHeader header n → length header ≡ 30
header_length header n h =
    let a = ap length h.spelled in
    let b = length-append h.filler (h.digits ++ 10 ∷ []) in
    let c = length-append h.digits (10 ∷ []) in
    let d = h.filler_length in
    let e = h.digits_length in
    omega (arith, a, b, c, d, e)

pub behind_front : (front rest : List ℕ) (n : ℕ) → length front ≡ n → drop n (front ++ rest) ≡ rest
behind_front front rest n e = subst (λ (k : ℕ). drop k (front ++ rest) ≡ rest) e (drop-append_seam front rest)

pub in_front : (front rest : List ℕ) (n : ℕ) → length front ≡ n → take n (front ++ rest) ≡ front
in_front front rest n e = subst (λ (k : ℕ). take k (front ++ rest) ≡ front) e (take-append_seam front rest)

-- its metadata lines
pub lines_there : (region : List ℕ) (m : Message) (at end : ℕ) → IsMessage region m → at ≡ 30 + length m.body + 4 → end + 1 ≡ length region → take (end - at) (drop at region) ≡ flat_map line_text m.lines
lines_there region m at end p e f =
    ap (take (end - at)) (ap (drop at) whole ∙ behind_front (p.header ++ (m.body ++ 10 ∷ 1 ∷ 3 ∷ 10 ∷ [])) (flat_map line_text m.lines ++ 10 ∷ []) at front_size) ∙ in_front (flat_map line_text m.lines) (10 ∷ []) (end - at) lines_size
  where
    whole : region ≡ (p.header ++ (m.body ++ 10 ∷ 1 ∷ 3 ∷ 10 ∷ [])) ++ (flat_map line_text m.lines ++ 10 ∷ [])
    whole =
        p.spelled ∙ (ap (λ (b : List ℕ). p.header ++ (m.body ++ b)) p.ends.spelled
        ∙ (ap (λ (b : List ℕ). p.header ++ b) (sym (append_assoc m.body (10 ∷ 1 ∷ 3 ∷ 10 ∷ []) (flat_map line_text m.lines ++ 10 ∷ []))) ∙ sym (append_assoc p.header (m.body ++ 10 ∷ 1 ∷ 3 ∷ 10 ∷ []) (flat_map line_text m.lines ++ 10 ∷ []))))

    front_size : length (p.header ++ (m.body ++ 10 ∷ 1 ∷ 3 ∷ 10 ∷ [])) ≡ at
    front_size =
        let a = length-append p.header (m.body ++ 10 ∷ 1 ∷ 3 ∷ 10 ∷ []) in
        let b = length-append m.body (10 ∷ 1 ∷ 3 ∷ 10 ∷ []) in
        let c = header_length p.header (length m.body) p.begins in
        omega (arith, a, b, c, e)

    lines_size : length (flat_map line_text m.lines) ≡ end - at
    lines_size =
        let a = ap length whole in
        let b = length-append (p.header ++ (m.body ++ 10 ∷ 1 ∷ 3 ∷ 10 ∷ [])) (flat_map line_text m.lines ++ 10 ∷ []) in
        let c = length-append (flat_map line_text m.lines) (10 ∷ []) in
        omega (arith, a, b, c, front_size, e, f)

text_of_lines : (region : List ℕ) (m : Message) (at end : ℕ) → (p : IsMessage region m) → at ≡ 30 + length m.body + 4 → end + 1 ≡ length region → AreLines (take (end - at) (drop at region)) m.lines
text_of_lines region m at end p e f = record { each = p.ends.each; spelled = lines_there region m at end p e f }

-- ---- how a place was looked for

pub no_place : (region : List ℕ) (r : Result MessageAt PlaceError) → PlaceGives region 0 r → result_ok r ≡ None → StandsNone region 0
no_place region (Ok p) gives e = absurd (let k : Some p ≡ None = e in cc k)
no_place region (Err (place_error.Truncated n)) gives e = gives.1
no_place region (Err (place_error.BadMessage n)) gives e = gives.1

pub some_place : (region : List ℕ) (r : Result MessageAt PlaceError) (place : MessageAt) → PlaceGives region 0 r → result_ok r ≡ Some place → StandsAt region 0 place
some_place region (Ok p) place gives e = subst (λ (q : MessageAt). StandsAt region 0 q) (let k : Some p ≡ Some place = e in cc k) gives
some_place region (Err error) place gives e = absurd (let k : None ≡ Some place = e in cc k)

-- ---- a message with a GUID

pub none_stands : (region : List ℕ) → StandsNone region 0 → (m : Message) → IsMessage region m → ⊥
none_stands region none m spelled = none (region, [], m, sym (append-nil region), spelled)

place_of : (region : List ℕ) (place : MessageAt) → StandsAt region 0 place → (n : Message) → IsMessage region n → place ≡ place_at 0 n
place_of region place (first, behind, m, e, spelled, is) n own =
    let same = message_same first region behind [] m n spelled own (sym e ∙ sym (append-nil region)) in
    is ∙ ap (place_at 0) same.1

pub end_of : (region : List ℕ) (place : MessageAt) → StandsAt region 0 place → (m : Message) → IsMessage region m → place.end ≡ length region
end_of region place at m spelled =
    let size = message_length region m 0 spelled in
    let ends = ap (λ (p : MessageAt). p.end) (place_of region place at m spelled) in
    omega (arith, size, ends)

one_is : (guid region : List ℕ) (place : MessageAt) (one : IsOneMessage region place) → (h : IsMessageWith guid region) → one.message ≡ h.message
one_is guid region place one h = (message_same region region [] [] one.message h.message one.spelled h.spelled refl).1

-- where its metadata lines stand
pub lines_within : (region : List ℕ) (place : MessageAt) → IsOneMessage region place → place.lines + 1 ≤ length region
lines_within region place one =
    let size = message_length region one.message 0 one.spelled in
    let lines = ap (λ (p : MessageAt). p.lines) one.place_is in
    omega (arith, size, lines)

lines_of_one : (region : List ℕ) (place : MessageAt) (one : IsOneMessage region place) → AreLines (take (length region - 1 - place.lines) (drop place.lines region)) one.message.lines
lines_of_one region place one =
    text_of_lines region one.message place.lines (length region - 1) one.spelled (ap (λ (p : MessageAt). p.lines) one.place_is) (let w = lines_within region place one in omega (arith, w))

-- What its lines say is what the lines of the message say.
pub said_by : (guid region : List ℕ) (place : MessageAt) → IsOneMessage region place → (h : IsMessageWith guid region) → IsMetadataText (take (length region - 1 - place.lines) (drop place.lines region)) h.meta
said_by guid region place one h = record {
  lines = one.message.lines;
  are = lines_of_one region place one;
  say = subst (λ (m : Message). IsMetadata m.lines h.meta) (sym (one_is guid region place one h)) h.says;
}

pub has_guid : (guid region : List ℕ) (place : MessageAt) (meta : Metadata) → IsOneMessage region place → IsMetadataText (take (length region - 1 - place.lines) (drop place.lines region)) meta → IsMessageWith guid region → meta.guid ≡ Some (record { 0 = guid })
has_guid guid region place meta one said h =
    ap (λ (m : Metadata). m.guid) (metadata_text_same (take (length region - 1 - place.lines) (drop place.lines region)) meta h.meta said (said_by guid region place one h)) ∙ h.has

pub is_of_guid : (guid region : List ℕ) (place : MessageAt) (meta : Metadata) → IsOneMessage region place → IsMetadataText (take (length region - 1 - place.lines) (drop place.lines region)) meta → meta.guid ≡ Some (record { 0 = guid }) → IsMessageWith guid region
is_of_guid guid region place meta one said has = record {
  message = one.message;
  meta = meta;
  spelled = one.spelled;
  says = subst (λ (ls : List Line). IsMetadata ls meta) (lines_same (take (length region - 1 - place.lines) (drop place.lines region)) said.lines one.message.lines said.are (lines_of_one region place one)) said.say;
  has = has;
}

pub if_none : {X : Type 0} → (r : Option X) (P : Type 0) → P → IfNone r P
if_none None P p = p
if_none (Some x) P p = tt

-- ---- lines that say nothing

pub bad_line : (text : List ℕ) (error : MetaError) (offset : ℕ) → error ≡ bad.BadLine offset → (◌≡◌ {A = Result Metadata MetaError} (Err error) (Err bad.NoMemory)) ⊎ MetadataGives text (Err error) → (meta : Metadata) → IsMetadataText text meta → ⊥
bad_line text error offset e (inl none) meta is = absurd (let w : error ≡ bad.NoMemory = cc none in let k = sym e ∙ w in cc k)
bad_line text error offset e (inr gives) meta is = no_bad_line text meta offset is (subst (λ (x : MetaError). MetadataGives text (Err x)) e gives)

-- ---- what is answered of a region

not_true : IsTrue false → ⊥
not_true t = let k : false ≡ true = t in cc k

pub no_message : (guid region : List ℕ) → ((m : Message) → IsMessage region m → ⊥) → IsTrue false ↔ IsMessageWith guid region
no_message guid region none = record { 0 = λ t. absurd (not_true t); 1 = λ h. absurd (none h.message h.spelled) }

pub no_lines : (guid region : List ℕ) (place : MessageAt) (o : Option Metadata) → IsOneMessage region place → LinesSay (take (length region - 1 - place.lines) (drop place.lines region)) o → o ≡ None → IsTrue false ↔ IsMessageWith guid region
no_lines guid region place o one says none = record {
  0 = λ t. absurd (not_true t);
  1 = λ h. absurd (unsaid (subst (λ (x : Option Metadata). LinesSay (take (length region - 1 - place.lines) (drop place.lines region)) x) none says) h);
}
  where
    unsaid : ((meta : Metadata) → IsMetadataText (take (length region - 1 - place.lines) (drop place.lines region)) meta → ⊥) → IsMessageWith guid region → ⊥
    unsaid says h = says h.meta (said_by guid region place one h)

pub as_told : (guid : Guid) (region : List ℕ) (place : MessageAt) (o : Option Metadata) (meta : Metadata) (is : Bool) → IsOneMessage region place → LinesSay (take (length region - 1 - place.lines) (drop place.lines region)) o → o ≡ Some meta → IsTrue is ↔ (meta.guid ≡ Some guid) → IsTrue is ↔ IsMessageWith guid.0 region
as_told guid region place o meta is one says some told =
    let said : IsMetadataText (take (length region - 1 - place.lines) (drop place.lines region)) meta = subst (λ (x : Option Metadata). LinesSay (take (length region - 1 - place.lines) (drop place.lines region)) x) some says in
    record {
      0 = λ t. is_of_guid guid.0 region place meta one said (told.0 t);
      1 = λ h. told.1 (has_guid guid.0 region place meta one said h);
    }
