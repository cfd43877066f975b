-- The parts of the one message that a header and what follows it are.
use Rattle.mail_fetch.proofs.Common.{◌≡◌, ◌≤◌, ◌<◌, ℕ, suc, List, [], ◌∷◌, ◌++◌, length, take, drop, refl, sym, ◌∙◌, ap, subst, arith, length-append, option_map_or, Metadata, InstRow, ExtRef, NameInstances, IsStoredMessage, StoredAt}
use Rattle.std.specs.Prelude.{Option, Some, None, IfNone}
use Rattle.std.proofs.Math.Seq.{drop-append_seam}
use Rattle.std.proofs.lemmas.List.{length-take-le, take-append-drop}
use Rattle.model_octets.proofs.PiecesLemmas.{split_same}
use Rattle.model_storage.specs.StorageFile.{Line, AreLines, IsBlock, IsMessageHeader}
use Rattle.model_storage.specs.Metadata.{IsMetadata, IsMetadataText}
use Rattle.model_storage.proofs.FileLemmas.{block_same, message_header_same}
use Rattle.model_storage.proofs.MetadataLemmas.{lines_same, metadata_text_same}
use Rattle.dbox_metadata.specs.BriefRead.{IsBriefOf}
use Rattle.dbox_metadata.specs.declared.brief.Brief.{Brief}
use Rattle.mail_fetch.specs.Region.{IsToldByLines}

pub header_length : (header : List ℕ) (n : ℕ) → IsMessageHeader header n → length header ≡ 30
header_length header n h =
    let a = ap length h.spelled in
    let b = length-append h.filler (h.digits ++ 10 ∷ []) in
    let c = length-append h.digits (10 ∷ []) in
    let d = h.filler_length in
    let e = h.digits_length in
    omega (arith, a, b, c, d, e)

-- ---- the message that is stored there

-- where the parts of a message stand, whose header is in one text and the rest in another
pub record StandsBehind (from : StoredAt) (head behind : List ℕ) (stored : IsStoredMessage from (head ++ behind)) : Type 0 where
  pub header : IsMessageHeader head (length stored.message.body)
  pub block : List ℕ
  pub behind_is : behind ≡ stored.message.body ++ block
  pub ends : IsBlock block stored.message.lines

pub stands_behind : (from : StoredAt) (head behind : List ℕ) → length head ≡ 30 → (h : IsStoredMessage from (head ++ behind)) → StandsBehind from head behind h
stands_behind from head behind long h =
    let p = h.spelled in
    let first = split_same head p.header behind (h.message.body ++ p.block) (long ∙ sym (header_length p.header (length h.message.body) p.begins)) p.spelled in
    record { header = subst (λ (xs : List ℕ). IsMessageHeader xs (length h.message.body)) (sym first.0) p.begins; block = p.block; behind_is = first.1; ends = p.ends }

pub no_header : (from : StoredAt) (head behind : List ℕ) → length head ≡ 30 → ((size : ℕ) → IsMessageHeader head size → ⊥) → IsStoredMessage from (head ++ behind) → ⊥
no_header from head behind long none h = none (length h.message.body) (stands_behind from head behind long h).header

-- its body's size is the one that the header tells
size_of_stored : (from : StoredAt) (head behind : List ℕ) (size : ℕ) → length head ≡ 30 → IsMessageHeader head size → (h : IsStoredMessage from (head ++ behind)) → size ≡ length h.message.body
size_of_stored from head behind size long told h = (message_header_same head head [] [] size (length h.message.body) told (stands_behind from head behind long h).header refl).1

pub body_within : (from : StoredAt) (head behind : List ℕ) (size : ℕ) → length head ≡ 30 → IsMessageHeader head size → length behind < size → IsStoredMessage from (head ++ behind) → ⊥
body_within from head behind size long told short h =
    let s = stands_behind from head behind long h in
    let same = size_of_stored from head behind size long told h in
    let whole = ap length s.behind_is in
    let parts = length-append h.message.body s.block in
    omega (arith, same, whole, parts, short)

behind_front : (front rest : List ℕ) (n : ℕ) → n ≡ length front → drop n (front ++ rest) ≡ rest
behind_front front rest n e = subst (λ (k : ℕ). drop k (front ++ rest) ≡ rest) (sym e) (drop-append_seam front rest)

block_of_stored : (from : StoredAt) (head behind : List ℕ) (size : ℕ) → length head ≡ 30 → IsMessageHeader head size → (h : IsStoredMessage from (head ++ behind)) → IsBlock (drop size behind) h.message.lines
block_of_stored from head behind size long told h =
    let s = stands_behind from head behind long h in
    subst (λ (xs : List ℕ). IsBlock xs h.message.lines) (sym (ap (drop size) s.behind_is ∙ behind_front h.message.body s.block size (size_of_stored from head behind size long told h))) s.ends

pub no_block : (from : StoredAt) (head behind block : List ℕ) (size : ℕ) → length head ≡ 30 → IsMessageHeader head size → block ≡ drop size behind → ((lines : List Line) → IsBlock block lines → ⊥) → IsStoredMessage from (head ++ behind) → ⊥
no_block from head behind block size long told is none h = none h.message.lines (subst (λ (xs : List ℕ). IsBlock xs h.message.lines) (sym is) (block_of_stored from head behind size long told h))

-- the text of its lines
pub record HasLines (head behind text : List ℕ) (size : ℕ) : Type 0 where
  pub long : length head ≡ 30
  pub told : IsMessageHeader head size
  pub lines : List Line
  pub block : IsBlock (drop size behind) lines
  pub are : AreLines text lines

pub has_lines : (head behind block text : List ℕ) (size : ℕ) → length head ≡ 30 → IsMessageHeader head size → block ≡ drop size behind → ((lines : List Line) × IsBlock block lines × AreLines text lines) → HasLines head behind text size
has_lines head behind block text size long told is h = record { long = long; told = told; lines = h.0; block = subst (λ (xs : List ℕ). IsBlock xs h.0) is h.1; are = h.2 }

-- what its lines say
says_of_stored : (from : StoredAt) (head behind text : List ℕ) (size : ℕ) → HasLines head behind text size → (h : IsStoredMessage from (head ++ behind)) → IsMetadataText text h.meta
says_of_stored from head behind text size l h =
    let same : l.lines ≡ h.message.lines = (block_same (drop size behind) (drop size behind) [] [] l.lines h.message.lines l.block (block_of_stored from head behind size l.long l.told h) refl).1 in
    record { lines = h.message.lines; are = subst (AreLines text) same l.are; say = h.says }

names_many : (refs : List ExtRef) (rows : List InstRow) → NameInstances refs rows → length refs ≡ length rows
names_many [] [] h = refl
names_many [] (row ∷ rows) h = absurd h
names_many (r ∷ refs) [] h = absurd h
names_many (r ∷ refs) (row ∷ rows) h = ap suc (names_many refs rows h.2)

-- They are read, if there is room for as many references as instances.
pub lines_are_read : (from : StoredAt) (head behind text : List ℕ) (size room : ℕ) → HasLines head behind text size → length from.instances ≤ room → ((meta : Metadata) → IsMetadataText text meta → length meta.refs ≤ room → ⊥) → IsStoredMessage from (head ++ behind) → ⊥
lines_are_read from head behind text size room l few none h =
    none h.meta (says_of_stored from head behind text size l h) (let e = names_many h.meta.refs from.instances h.names in omega (arith, e, few))

-- What is kept of the message is what its lines tell.
pub told_of_stored : (from : StoredAt) (head behind text : List ℕ) (size : ℕ) (brief : Brief) → HasLines head behind text size → IsBriefOf text brief → IsStoredMessage from (head ++ behind) → IsToldByLines brief from size
told_of_stored from head behind text size brief l b h =
    let meta : b.meta ≡ h.meta = metadata_text_same text b.meta h.meta b.says (says_of_stored from head behind text size l h) in
    let same = size_of_stored from head behind size l.long l.told h in
    record {
      guid = b.guid ∙ (ap (λ (m : Metadata). m.guid) meta ∙ h.guid);
      size = ap (λ (o : Option ℕ). option_map_or (λ whole. whole) o size) (b.physical ∙ ap (λ (m : Metadata). m.physical) meta) ∙ (ap (λ (n : ℕ). option_map_or (λ whole. whole) h.meta.physical n) same ∙ h.size);
      names = subst (λ (rs : List ExtRef). NameInstances rs from.instances) (sym (b.refs ∙ ap (λ (m : Metadata). m.refs) meta)) h.names;
    }

-- The message that is stored there, whose body is the first of the octets behind the header.
pub record FoundStored (from : StoredAt) (head behind : List ℕ) (size : ℕ) (refs : List ExtRef) : Type 0 where
  pub within : size ≤ length behind
  pub stored : IsStoredMessage from (head ++ behind)
  pub body : take size behind ≡ stored.message.body
  pub size_is : size ≡ length stored.message.body
  pub refs_are : refs ≡ stored.meta.refs

-- A header and what follows it, whose lines tell this, are the message that is stored there.
pub stored_of_told : (from : StoredAt) (head behind text : List ℕ) (size : ℕ) (brief : Brief) → HasLines head behind text size → size ≤ length behind → IsBriefOf text brief → IsToldByLines brief from size → FoundStored from head behind size brief.refs.items
stored_of_told from head behind text size brief l within b told =
    let long : length (take size behind) ≡ size = length-take-le size behind within in
    let same : b.says.lines ≡ l.lines = lines_same text b.says.lines l.lines b.says.are l.are in
    record {
      within = within;
      stored = record {
        message = record { body = take size behind; lines = l.lines };
        meta = b.meta;
        spelled = record {
          header = head;
          block = drop size behind;
          spelled = ap (λ (xs : List ℕ). head ++ xs) (sym (take-append-drop size behind));
          begins = subst (IsMessageHeader head) (sym long) l.told;
          ends = l.block;
        };
        says = subst (λ (ls : List Line). IsMetadata ls b.meta) same b.says.say;
        guid = sym b.guid ∙ told.guid;
        names = subst (λ (rs : List ExtRef). NameInstances rs from.instances) b.refs told.names;
        size = ap (λ (o : Option ℕ). option_map_or (λ n. n) o (length (take size behind))) (sym b.physical) ∙ (ap (λ (n : ℕ). option_map_or (λ k. k) brief.physical n) long ∙ told.size);
      };
      body = refl;
      size_is = sym long;
      refs_are = b.refs;
    }

pub if_none : {X : Type 0} → (r : Option X) (P : Type 0) → P → IfNone r P
if_none None P p = p
if_none (Some x) P p = tt
