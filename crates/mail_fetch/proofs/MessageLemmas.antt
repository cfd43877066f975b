-- The whole of a message that was read.
use Rattle.mail_fetch.proofs.Common.{◌≡◌, ◌≤◌, ◌<◌, ◌+◌, ◌++◌, ℕ, List, [], ◌∷◌, length, take, drop, Some, None, refl, sym, ◌∙◌, ap, subst, arith, All, length-append, length-take, inl, inr, cases_lt, All-cons, All-nil, InstRow, FileNo, ExtRef, Message, Metadata, NameInstances, octets_to_read, HoldsWhole, IsStoredMessage, StoredAt}
use Rattle.std.specs.Prelude.{Option, IfNone, IfSome}
use Rattle.std.specs.List.{AllByRecursion}
use Rattle.std.proofs.Math.Seq.{drop-append-add, take-append-add}
use Rattle.std.proofs.lemmas.List.{take-take}
use Rattle.attach_join.specs.Behind.{octets_in}
use Rattle.mdbox_base.specs.declared.metadata.LineForm.{LineForm}
use Rattle.mdbox_base.specs.declared.replies.Refusal.TheVariants as refusal
use Rattle.mdbox_base.specs.declared.replies.Reply.TheVariants as reply
use Rattle.model_attach.specs.Rejoined.{IsWhole}
use Rattle.model_base64.specs.Base64Text.{IsForm}
use Rattle.model_storage.specs.References.{FormFits, ReferenceFits}
use Rattle.model_storage.specs.Metadata.{HasReferences, IsMetadata}
use Rattle.model_storage.specs.StorageFile.{Line}
use Rattle.model_storage.proofs.FileLemmas.{message_same}
use Rattle.model_storage.proofs.MetadataLemmas.{metadata_same}
use Rattle.mail_fetch.specs.Region.{damage_at}
use Rattle.mail_fetch.specs.Room.{IsCut}
use Rattle.mail_fetch.proofs.BodyLemmas.{FoundStored, header_length}

-- a region is one message, and says one thing
pub record SameStored (from : StoredAt) (region : List ℕ) (a b : IsStoredMessage from region) : Type 0 where
  pub message : a.message ≡ b.message
  pub meta : a.meta ≡ b.meta

pub same_stored : (from : StoredAt) (region : List ℕ) (a b : IsStoredMessage from region) → SameStored from region a b
same_stored from region a b =
    let message : a.message ≡ b.message = (message_same region region [] [] a.message b.message a.spelled b.spelled refl).1 in
    record {
      message = message;
      meta = metadata_same b.message.lines a.meta b.meta (subst (λ (m : Message). IsMetadata m.lines a.meta) message a.says) b.says;
    }

-- ---- references

forms_fit : (refs : List ExtRef) → AllByRecursion ReferenceFits refs → All (λ ref. IfSome ref.form IsForm) refs
forms_fit [] h = All-nil (λ (ref : ExtRef). IfSome ref.form IsForm)
forms_fit (ref ∷ refs) h = All-cons (λ (r : ExtRef). IfSome r.form IsForm) ref refs (one ref.form h.0.form) (forms_fit refs h.1)
  where
    one : (form : Option LineForm) → FormFits form → IfSome form IsForm
    one None f = tt
    one (Some form) f = f

pub references_fit : (lines : List Line) (refs : List ExtRef) → HasReferences lines refs → All (λ ref. IfSome ref.form IsForm) refs
references_fit lines [] h = All-nil (λ (ref : ExtRef). IfSome ref.form IsForm)
references_fit lines (ref ∷ refs) h = forms_fit (ref ∷ refs) h.2.fit

pub forms_of_stored : (from : StoredAt) (head behind : List ℕ) (size : ℕ) (refs : List ExtRef) → FoundStored from head behind size refs → All (λ ref. IfSome ref.form IsForm) refs
forms_of_stored from head behind size refs f = subst (All (λ (ref : ExtRef). IfSome ref.form IsForm)) (sym f.refs_are) (references_fit f.stored.message.lines f.stored.meta.refs f.stored.says.refs)

-- ---- what was read

-- so many octets behind the header the region ends, and these are behind it
pub record IsCutAt (from : StoredAt) (head read behind instances : List ℕ) : Type 0 where
  pub long : length (head ++ read) ≡ octets_to_read from
  pub region : take from.size (head ++ read) ≡ head ++ behind
  pub rest : drop from.size (head ++ read) ≡ instances

-- a header that is whole
pub head_whole : (from : StoredAt) (head read : List ℕ) → IsCut head read → 30 ≤ from.size → length head + length read ≡ octets_to_read from → length head ≡ 30
head_whole from head read cut large long = elim (cases_lt (length head) 30) [
  | inl short ↦ absurd (let none = ap length (cut.order short) in omega (arith, none, short, large, long))
  | inr full ↦ omega (arith, full, cut.most)
]

pub cut_at : (from : StoredAt) (head read : List ℕ) (at : ℕ) → length head ≡ 30 → at + 30 ≡ from.size → length head + length read ≡ octets_to_read from → IsCutAt from head read (take at read) (drop at read)
cut_at from head read at whole is long =
    let size : from.size ≡ length head + at = omega (arith, whole, is) in
    record {
      long = length-append head read ∙ long;
      region = ap (λ (n : ℕ). take n (head ++ read)) size ∙ take-append-add head read at;
      rest = ap (λ (n : ℕ). drop n (head ++ read)) size ∙ drop-append-add head read at;
    }

holds : (from : StoredAt) (read region instances octets : List ℕ) → length read ≡ octets_to_read from → take from.size read ≡ region → drop from.size read ≡ instances → (s : IsStoredMessage from region)
    → IsWhole octets s.message.body s.meta.refs (octets_in from.instances instances) → length octets ≡ from.listed → HoldsWhole from read octets
holds from read region instances octets long front back =
    subst (λ (xs : List ℕ). (s : IsStoredMessage from xs) → IsWhole octets s.message.body s.meta.refs (octets_in from.instances instances) → length octets ≡ from.listed → HoldsWhole from read octets) front
    (λ s whole size. record { long = long; stored = s; whole = subst (λ (xs : List ℕ). IsWhole octets s.message.body s.meta.refs (octets_in from.instances xs)) (sym back) whole; size = size })

held : (from : StoredAt) (read region instances octets : List ℕ) → take from.size read ≡ region → drop from.size read ≡ instances → HoldsWhole from read octets
    → (s : IsStoredMessage from region) × IsWhole octets s.message.body s.meta.refs (octets_in from.instances instances)
held from read region instances octets front back h =
    subst (λ (xs : List ℕ). (s : IsStoredMessage from xs) × IsWhole octets s.message.body s.meta.refs (octets_in from.instances instances)) front
    (h.stored, subst (λ (xs : List ℕ). IsWhole octets h.stored.message.body h.stored.meta.refs (octets_in from.instances xs)) back h.whole)

pub none_stored : (from : StoredAt) (head read behind instances octets : List ℕ) → IsCutAt from head read behind instances → (IsStoredMessage from (head ++ behind) → ⊥) → HoldsWhole from (head ++ read) octets → ⊥
none_stored from head read behind instances octets at none h = none (held from (head ++ read) (head ++ behind) instances octets at.region at.rest h).0

-- no message is as short
pub too_short : (from : StoredAt) (read octets : List ℕ) → from.size < 30 → HoldsWhole from read octets → ⊥
too_short from read octets short h =
    let p = h.stored.spelled in
    let size = ap length p.spelled in
    let parts = length-append p.header (h.stored.message.body ++ p.block) in
    let head = header_length p.header (length h.stored.message.body) p.begins in
    let most = length-take from.size read in
    omega (arith, size, parts, head, most, short)

-- ---- joined with its instances

pub holds_joined : (from : StoredAt) (head read behind instances octets : List ℕ) (size : ℕ) (refs : List ExtRef) → IsCutAt from head read behind instances → FoundStored from head behind size refs
    → IsWhole octets (take size behind) refs (octets_in from.instances instances) × (length octets ≡ from.listed) → HoldsWhole from (head ++ read) octets
holds_joined from head read behind instances octets size refs at f w =
    holds from (head ++ read) (head ++ behind) instances octets at.long at.region at.rest f.stored
    (subst (λ (b : List ℕ). IsWhole octets b f.stored.meta.refs (octets_in from.instances instances)) f.body
    (subst (λ (rs : List ExtRef). IsWhole octets (take size behind) rs (octets_in from.instances instances)) f.refs_are w.0)) w.1

pub joined_of_whole : (from : StoredAt) (head read behind instances octets : List ℕ) (size : ℕ) (refs : List ExtRef) → IsCutAt from head read behind instances → FoundStored from head behind size refs
    → HoldsWhole from (head ++ read) octets → IsWhole octets (take size behind) refs (octets_in from.instances instances)
joined_of_whole from head read behind instances octets size refs at f h =
    let (stored, whole) = held from (head ++ read) (head ++ behind) instances octets at.region at.rest h in
    let same = same_stored from (head ++ behind) stored f.stored in
    subst (λ (b : List ℕ). IsWhole octets b refs (octets_in from.instances instances)) (ap (λ (m : Message). m.body) same.message ∙ sym f.body)
    (subst (λ (rs : List ExtRef). IsWhole octets stored.message.body rs (octets_in from.instances instances)) (ap (λ (m : Metadata). m.refs) same.meta ∙ sym f.refs_are) whole)

pub none_joined : (from : StoredAt) (head read behind instances octets : List ℕ) (size : ℕ) (refs : List ExtRef) → IsCutAt from head read behind instances → FoundStored from head behind size refs
    → ((text : List ℕ) → IsWhole text (take size behind) refs (octets_in from.instances instances) → length text ≡ from.listed → ⊥) → HoldsWhole from (head ++ read) octets → ⊥
none_joined from head read behind instances octets size refs at f none h = none octets (joined_of_whole from head read behind instances octets size refs at f h) h.size

-- ---- without instances

no_refs : (refs : List ExtRef) (rows : List InstRow) → NameInstances refs rows → rows ≡ [] → refs ≡ []
no_refs [] rows h e = refl
no_refs (r ∷ refs) [] h e = absurd h
no_refs (r ∷ refs) (row ∷ rows) h e = absurd (cc e)

refs_alone : (from : StoredAt) (head behind : List ℕ) (size : ℕ) (refs : List ExtRef) → FoundStored from head behind size refs → from.instances ≡ [] → refs ≡ []
refs_alone from head behind size refs f alone = f.refs_are ∙ no_refs f.stored.meta.refs from.instances f.stored.names alone

pub holds_alone : (from : StoredAt) (head read behind instances octets : List ℕ) (size at : ℕ) (refs : List ExtRef) → IsCutAt from head read behind instances → behind ≡ take at read → FoundStored from head behind size refs → from.instances ≡ []
    → size ≡ from.listed → octets ≡ take size read → HoldsWhole from (head ++ read) octets
holds_alone from head read behind instances octets size at refs cut behind_is f alone listed is =
    let within = f.within in
    let body : octets ≡ take size behind = is ∙ (sym (take-take size at read (let long = ap length behind_is in let most = length-take at read in omega (arith, long, most, within))) ∙ ap (take size) (sym behind_is)) in
    holds_joined from head read behind instances octets size refs cut f (
      subst (λ (rows : List InstRow). IsWhole octets (take size behind) refs (octets_in rows instances)) (sym alone)
          (subst (λ (rs : List ExtRef). IsWhole octets (take size behind) rs []) (sym (refs_alone from head behind size refs f alone)) body),
      ap (λ (xs : List ℕ). length xs) (body ∙ f.body) ∙ (sym f.size_is ∙ listed),
    )

pub listed_alone : (from : StoredAt) (head read behind instances octets : List ℕ) (size : ℕ) (refs : List ExtRef) → IsCutAt from head read behind instances → FoundStored from head behind size refs → from.instances ≡ []
    → HoldsWhole from (head ++ read) octets → size ≡ from.listed
listed_alone from head read behind instances octets size refs at f alone h =
    let joined = joined_of_whole from head read behind instances octets size refs at f h in
    let plain : IsWhole octets (take size behind) [] [] =
    subst (λ (rs : List ExtRef). IsWhole octets (take size behind) rs []) (refs_alone from head behind size refs f alone)
    (subst (λ (rows : List InstRow). IsWhole octets (take size behind) refs (octets_in rows instances)) alone joined) in
    let is : octets ≡ take size behind = plain in
    f.size_is ∙ (sym (ap (λ (xs : List ℕ). length xs) (is ∙ f.body)) ∙ h.size)

-- ---- as they are read and replied

pub found_in : (from : StoredAt) (head there behind : List ℕ) (size : ℕ) (refs : List ExtRef) → there ≡ behind
    → (size ≤ length there) × ((s : IsStoredMessage from (head ++ there)) × (take size there ≡ s.message.body) × (size ≡ length s.message.body) × (refs ≡ s.meta.refs)) → FoundStored from head behind size refs
found_in from head there behind size refs is h = subst (λ (r : List ℕ). FoundStored from head r size refs) is (record { within = h.0; stored = h.1.0; body = h.1.1; size_is = h.1.2; refs_are = h.1.3 })

-- body, instances and references, as they are handed on
abbrev IsJoinedText : StoredAt → List ℕ → List ℕ → List ℕ → List ExtRef → Type 0
IsJoinedText from octets body rest named = IsWhole octets body named (octets_in from.instances rest)

joined_same : (from : StoredAt) (octets body text rest instances : List ℕ) (refs named : List ExtRef) → text ≡ body → rest ≡ instances → named ≡ refs → IsJoinedText from octets text rest named ≡ IsJoinedText from octets body instances refs
joined_same from octets body text rest instances refs named a b n =
    ap (λ (t : List ℕ). IsJoinedText from octets t rest named) a ∙ (ap (λ (t : List ℕ). IsJoinedText from octets body t named) b ∙ ap (IsJoinedText from octets body instances) n)

pub holds_joined_as : (from : StoredAt) (head read behind instances octets text rest : List ℕ) (size : ℕ) (refs named : List ExtRef) → IsCutAt from head read behind instances → FoundStored from head behind size refs
    → text ≡ take size behind → rest ≡ instances → named ≡ refs → IsWhole octets text named (octets_in from.instances rest) × (length octets ≡ from.listed) → HoldsWhole from (head ++ read) octets
holds_joined_as from head read behind instances octets text rest size refs named at f a b n w =
    holds_joined from head read behind instances octets size refs at f (subst (λ (X : Type 0). X) (joined_same from octets (take size behind) text rest instances refs named a b n) w.0, w.1)

pub none_joined_as : (from : StoredAt) (head read behind instances octets text rest : List ℕ) (size : ℕ) (refs named : List ExtRef) → IsCutAt from head read behind instances → FoundStored from head behind size refs
    → text ≡ take size behind → rest ≡ instances → named ≡ refs → ((whole : List ℕ) → IsWhole whole text named (octets_in from.instances rest) → length whole ≡ from.listed → ⊥) → HoldsWhole from (head ++ read) octets → ⊥
none_joined_as from head read behind instances octets text rest size refs named at f a b n none h =
    none_joined from head read behind instances octets size refs at f (λ whole w. none whole (subst (λ (X : Type 0). X) (sym (joined_same from whole (take size behind) text rest instances refs named a b n)) w)) h

pub some_map : {X : Type 0} → (r : Option X) (P Q : X → Type 0) → ((x : X) → P x → Q x) → IfSome r P → IfSome r Q
some_map None P Q f h = tt
some_map (Some x) P Q f h = f x h

pub none_map : {X : Type 0} → (r : Option X) (P Q : Type 0) → (P → Q) → IfNone r P → IfNone r Q
none_map None P Q f h = f h
none_map (Some x) P Q f h = tt

-- that a region is damaged, by its place
pub damaged : (from : StoredAt) (file : FileNo) (offset : ℕ) → file ≡ from.file → offset ≡ from.offset → reply.Refused (refusal.Damaged file offset) ≡ damage_at from
damaged from file offset e f = ap (λ (n : FileNo). reply.Refused (refusal.Damaged n offset)) e ∙ ap (λ (n : ℕ). reply.Refused (refusal.Damaged from.file n)) f
