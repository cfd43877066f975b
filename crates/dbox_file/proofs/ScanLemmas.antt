-- A scan, message by message.
use Rattle.std.specs.Prelude.{◌≡◌, ◌≤◌, ◌<◌, ◌+◌, ℕ, List, [], ◌∷◌, ◌++◌, length, drop, refl, Err}
use Rattle.std.proofs.Common.{sym, ◌∙◌, ap, subst, append_assoc, append-nil, length-append, length-drop, arith}
use Rattle.std.proofs.lemmas.List.{drop_all, drop_at, drop-drop}
use Rattle.model_storage.specs.Places.{refusal_of}
use Rattle.model_storage.specs.declared.places.MessageAt.{MessageAt}
use Rattle.model_storage.specs.declared.places.PlaceError.{PlaceError}
use Rattle.model_storage.specs.declared.places.PlaceError.TheVariants as at
use Rattle.model_storage.specs.Grammars.{Begins}
use Rattle.model_storage.proofs.ScanLemmas.{message_length}
use Rattle.model_storage.specs.StorageFile.{Message, IsMessage, AreMessages, IsHeaderLine, place_at, message_places_from, StandsAt, PlaceGives, HasPlaces, StopsAt, IsRefused}
use Rattle.dbox_file.specs.HeaderFields.{HasHeaderLine}

messages_more : (front first : List ℕ) (ms : List Message) (m : Message) → AreMessages front ms → IsMessage first m → AreMessages (front ++ first) (ms ++ m ∷ [])
messages_more front first [] m a p = (first, [], ap (λ (o : List ℕ). o ++ first) a ∙ sym (append-nil first), p, refl)
messages_more front first (n ∷ ms) m a p =
    (a.0, a.1 ++ first, ap (λ (o : List ℕ). o ++ first) a.2 ∙ append_assoc a.0 a.1 first, a.3, messages_more a.1 first ms m a.4 p)

places_more : (front : List ℕ) (ms : List Message) (m : Message) (offset : ℕ) → AreMessages front ms → message_places_from offset (ms ++ m ∷ []) ≡ message_places_from offset ms ++ place_at (offset + length front) m ∷ []
places_more front [] m offset a = ap (λ (n : ℕ). place_at n m ∷ []) (let n : offset ≡ offset + length front = omega (arith, ap length a) in n)
places_more front (n ∷ ms) m offset a =
    let next : (place_at offset n).end + length a.1 ≡ offset + length front = omega (arith, message_length a.0 n offset a.3, ap length a.2, length-append a.0 a.1) in
    ap (λ (ps : List MessageAt). place_at offset n ∷ ps) (places_more a.1 ms m (place_at offset n).end a.4 ∙ ap (λ (k : ℕ). message_places_from (place_at offset n).end ms ++ place_at k m ∷ []) next)

-- Up to this offset the file is a good header line and whole messages, which stand at these places.
pub record IsScanned (file : List ℕ) (offset : ℕ) (places : List MessageAt) : Type 0 where
  pub header : List ℕ
  pub front : List ℕ
  pub messages : List Message
  pub parts : file ≡ header ++ (front ++ drop offset file)
  pub begins : IsHeaderLine header 30
  pub whole : AreMessages front messages
  pub offset_is : offset ≡ length header + length front
  pub places_are : places ≡ message_places_from (length header) messages

pub scanned_header : (file : List ℕ) (size : ℕ) (places : List MessageAt) → places ≡ [] → HasHeaderLine file size 30 → IsScanned file size places
scanned_header file size places e h = record {
  header = h.0;
  front = [];
  messages = [];
  parts = h.2 ∙ ap (λ (o : List ℕ). h.0 ++ o) (sym (ap (drop size) h.2 ∙ drop_at h.0 h.1 size h.4));
  begins = h.3;
  whole = refl;
  offset_is = omega (arith, h.4);
  places_are = e;
}

moved : (file first behind : List ℕ) (offset end : ℕ) → drop offset file ≡ first ++ behind → offset + length first ≡ end → drop offset file ≡ first ++ drop end file
moved file first behind offset end e n =
    let rest : behind ≡ drop end file = sym (drop_at first behind (length first) refl) ∙ ap (drop (length first)) (sym e) ∙ drop-drop (length first) offset file ∙ ap (λ (k : ℕ). drop k file) n in
    e ∙ ap (λ (o : List ℕ). first ++ o) rest

pub scanned_message : (file : List ℕ) (offset : ℕ) (place : MessageAt) (old new : List MessageAt) → IsScanned file offset old → StandsAt file offset place → new ≡ old ++ place ∷ [] → IsScanned file place.end new
scanned_message file offset place old new s p e =
    let m = p.2 in
    let end : offset + length p.0 ≡ place.end = message_length p.0 m offset p.4 ∙ ap (λ (a : MessageAt). a.end) (sym p.5) in
    let cut = moved file p.0 p.1 offset place.end p.3 end in
    record {
      header = s.header;
      front = s.front ++ p.0;
      messages = s.messages ++ m ∷ [];
      parts = s.parts ∙ ap (λ (o : List ℕ). s.header ++ (s.front ++ o)) cut ∙ ap (λ (o : List ℕ). s.header ++ o) (sym (append_assoc s.front p.0 (drop place.end file)));
      begins = s.begins;
      whole = messages_more s.front p.0 s.messages m s.whole p.4;
      offset_is = omega (arith, end, s.offset_is, length-append s.front p.0);
      places_are =
          e ∙ ap (λ (ps : List MessageAt). ps ++ place ∷ []) s.places_are
          ∙ ap (λ (a : MessageAt). message_places_from (length s.header) s.messages ++ a ∷ []) (p.5 ∙ ap (λ (k : ℕ). place_at k m) s.offset_is)
          ∙ sym (places_more s.front s.messages m (length s.header) s.whole);
    }

pub scanned_all : (file : List ℕ) (offset : ℕ) (places : List MessageAt) → IsScanned file offset places → length file ≤ offset → HasPlaces file places
scanned_all file offset places s h = (
  s.header,
  s.messages,
  record {
    rest = s.front;
    parts = s.parts ∙ ap (λ (o : List ℕ). s.header ++ (s.front ++ o)) (drop_all offset file h) ∙ ap (λ (o : List ℕ). s.header ++ o) (append-nil s.front);
    begins = s.begins;
    follow = s.whole;
  },
  s.places_are,
)

stops : (file : List ℕ) (offset : ℕ) (places : List MessageAt) → IsScanned file offset places → offset < length file → ¬ Begins IsMessage (drop offset file) → StopsAt file offset (drop offset file)
stops file offset places s h none = record {
  header = s.header;
  front = s.front;
  messages = s.messages;
  parts = s.parts;
  begins = s.begins;
  whole = s.whole;
  offset_is = s.offset_is;
  some = λ e. omega (arith, h, ap length e, length-drop offset file);
  none = none;
}

pub scanned_refused : (file : List ℕ) (offset : ℕ) (places : List MessageAt) (error : PlaceError) → IsScanned file offset places → offset < length file → PlaceGives file offset (Err error) → IsRefused file (refusal_of error)
scanned_refused file offset places (at.Truncated n) s h p = subst (λ (k : ℕ). IsRefused file (refusal_of (at.Truncated k))) (sym p.0) (drop offset file, stops file offset places s h p.1, p.2)
scanned_refused file offset places (at.BadMessage n) s h p = subst (λ (k : ℕ). IsRefused file (refusal_of (at.BadMessage k))) (sym p.0) (drop offset file, stops file offset places s h p.1, p.2)
