-- A log that is made with its entries.
use Rattle.std.proofs.Common.{◌≡◌, ◌==◌, true, inl, inr, ℕ, max, List, [], length, Option, Some, None, refl, sym, ◌∙◌, ap, subst}
use Rattle.std.proofs.lemmas.Bool.{cases_eq, ne_eqb, true≢false}
use Rattle.std.proofs.lemmas.List.{nil_from_length}
use Rattle.disk_model.specs.Disk.{Files, DiskState, History, IfTold, EachImage, OthersStay, Keeps, MayLeave, FileState}
use Rattle.disk_model.specs.declared.name.FileName.{FileName}
use Rattle.disk_model.proofs.MomentLemmas.{if_told-all, if_told-map, each_image-map, each_image-then}
use Rattle.disk_model.proofs.OneFileLemmas.{named-narrows}
use Rattle.model_logs.specs.declared.log_head.LogHead.{LogHead}
use Rattle.gate_log.specs.State.{LogState}
use Rattle.gate_log.specs.Log.{Holds, IsLogHeld, IsAtMostAsLong, IsLogWithOrWithoutAll, NamedButFor, cut_by, log_text}
use Rattle.model_logs.specs.LogFile.{HeadFits}
use Rattle.model_rebuild.specs.RebuildMoments.{KeepsLog}
use Rattle.store_rebuild.specs.Writing.{IsLogBeingMade}

-- what each image has of the log that is made, and of other files
abbrev pub IsMaking : FileName → LogHead → List (List ℕ) → Option History → Files → Type 0
IsMaking name head entries old image = IfTold old (λ before. IsLogBeingMade head entries (before name) (image name)) × OthersStay name old image

-- while it has no entry
pub first_images : (name : FileName) (head : LogHead) (entries : List (List ℕ)) (old new : Option History)
    → EachImage (λ _ image. IfTold old (λ before. IsAtMostAsLong 26 (before name) (image name)) × OthersStay name old image) old new
    → EachImage (λ _ image. IsMaking name head entries old image) old new
first_images name head entries old new each = each_image-map _ _ old new (λ m image is. (if_told-map _ _ old (λ disk short. inl short) is.0, is.1)) each

-- the other files of an image, as they could be before their names were synced
pub others_named : (name : FileName) (old now : Option History) (image : Files) → NamedButFor name old now → OthersStay name now image → OthersStay name old image
others_named name None now image named stay = tt
others_named name (Some old) None image named stay = elim named [ ]
others_named name (Some old) (Some now) image named stay = λ other apart.
    let F : FileState → Type 0 = λ f. MayLeave f (image other) in
    named-narrows (old.now other) (image other) (subst F (named other apart) (stay other apart))

-- the log with room for its entries
abbrev empty_log : FileName → LogHead → ℕ → LogState
empty_log name head room = record { name = name; head = head; end = 25; count = 0; room = room }

roomy : (name : FileName) (head : LogHead) (made log : LogState) (room : ℕ) → made ≡ empty_log name head 0 → log ≡ record made { room = max made.room room } → log ≡ empty_log name head log.room
roomy name head made log room is same = same ∙ ap (λ (l : LogState). record l { room = max made.room room }) is ∙ ap (λ (n : ℕ). empty_log name head n) (sym (ap (λ (l : LogState). l.room) same))

-- it is held, whatever its room
pub roomy_holds : (made log : LogState) (room : ℕ) (h : Option History) → log ≡ record made { room = max made.room room } → Holds made [] h → Holds log [] h
roomy_holds made log room h same holds = subst (λ (l : LogState). Holds l [] h) (sym same) (if_told-map _ _ h (λ disk k. record {
  reads = record { file = k.reads.file; end = k.reads.end; count = k.reads.count; head_fits = k.reads.head_fits; entries_fit = k.reads.entries_fit };
  keeps = k.keeps;
}) holds)

-- while the entries are added
pub entry_images : (name : FileName) (head : LogHead) (entries : List (List ℕ)) (made log : LogState) (room : ℕ) (old now new : Option History) → made ≡ empty_log name head 0 → log ≡ record made { room = max made.room room }
    → NamedButFor name old now
    → EachImage (λ _ image. IfTold old (λ before. IsAtMostAsLong 26 (before name) (image name)) × OthersStay name old image) old now
    → EachImage (λ _ image. IsLogWithOrWithoutAll log.head [] entries (image log.name) × OthersStay log.name now image) now new
    → EachImage (λ _ image. IsMaking name head entries old image) old new
entry_images name head entries made log room old now new is same named first each =
    let e : log ≡ empty_log name head log.room = roomy name head made log room is same in
    let F : LogState → Type 0 = λ l. EachImage (λ _ image. IsLogWithOrWithoutAll l.head [] entries (image l.name) × OthersStay l.name now image) now new in
    each_image-then _ old now new (first_images name head entries old now first)
    (each_image-map _ _ now new (λ m image i. (if_told-all _ old (λ disk. inr i.0), others_named name old now image named i.1)) (subst F e each))

-- ---- afterwards

held_log : (log : LogState) (name : FileName) (head : LogHead) (entries : List (List ℕ)) (disk : DiskState) → log.name ≡ name → log.head ≡ head → IsLogHeld log entries disk → KeepsLog disk name head entries
held_log log name head entries disk n h k = record {
  octets = log_text head entries;
  keeps = subst (λ (o : FileName). Keeps (disk o) (log_text head entries)) n (subst (λ (o : LogHead). Keeps (disk log.name) (log_text o entries)) h k.keeps);
  whole = record { head_fits = subst HeadFits h k.reads.head_fits; entries_fit = k.reads.entries_fit; gate = 0; behind = []; spelled = refl; ends = inr refl };
}

pub holds_log : (log : LogState) (name : FileName) (head : LogHead) (entries : List (List ℕ)) (h : Option History) → log.name ≡ name → log.head ≡ head → Holds log entries h → IfTold h (λ disk. KeepsLog disk name head entries)
holds_log log name head entries h n e holds = if_told-map _ _ h (λ disk k. held_log log name head entries disk n e k) holds

-- a log without entries
pub no_entries : (lengths sizes octets : List ℕ) → sizes ≡ lengths → true ≡ (length sizes == 0) → cut_by lengths octets ≡ []
no_entries lengths sizes octets same empty =
    let none : length sizes ≡ 0 = elim (cases_eq (length sizes) 0) [ inl e ↦ e | inr apart ↦ absurd (true≢false (empty ∙ ne_eqb (length sizes) 0 apart)) ] in
    ap (λ (ls : List ℕ). cut_by ls octets) (sym same ∙ nil_from_length sizes none)
