-- A log that is made with its first entry.
use Rattle.std.proofs.Common.{◌≡◌, inl, inr, ℕ, List, [], Option, Some, None, sym, ◌∙◌, ap, subst}
use Rattle.disk_model.specs.Disk.{Files, FileState, History, MayLeave, IfTold, EachImage, OthersStay}
use Rattle.disk_model.specs.declared.name.FileName.{FileName}
use Rattle.disk_model.proofs.MomentLemmas.{if_told-all, if_told-map, each_image-map, each_image-then}
use Rattle.disk_model.proofs.OneFileLemmas.{named-narrows}
use Rattle.model_logs.specs.declared.log_head.LogHead.{LogHead}
use Rattle.gate_log.specs.State.{LogState}
use Rattle.gate_log.specs.Log.{Holds, IsAtMostAsLong, IsLogWithOrWithout, NamedButFor}
use Rattle.store_open.specs.Making.{IsBeingMade}

-- what each image has of the log that is made, and of other files
abbrev pub IsMaking : FileName → LogHead → List ℕ → Option History → Files → Type 0
IsMaking name head entry old image = IfTold old (λ before. IsBeingMade head entry (before name) (image name)) × OthersStay name old image

-- while it has no entry
pub first-images : (name : FileName) (head : LogHead) (entry : List ℕ) (old new : Option History)
    → EachImage (λ _ image. IfTold old (λ before. IsAtMostAsLong 26 (before name) (image name)) × OthersStay name old image) old new
    → EachImage (λ _ image. IsMaking name head entry old image) old new
first-images name head entry old new each = each_image-map _ _ old new (λ m image is. (if_told-map _ _ old (λ disk short. inl short) is.0, is.1)) each

-- the other files of an image, as they could be before their names were synced
pub others-named : (name : FileName) (old now : Option History) (image : Files) → NamedButFor name old now → OthersStay name now image → OthersStay name old image
others-named name None now image named stay = tt
others-named name (Some old) None image named stay = elim named [ ]
others-named name (Some old) (Some now) image named stay = λ other apart.
    let F : FileState → Type 0 = λ f. MayLeave f (image other) in
    named-narrows (old.now other) (image other) (subst F (named other apart) (stay other apart))

-- the log with room for its entry
abbrev empty_log : FileName → LogHead → ℕ → LogState
empty_log name head room = record { name = name; head = head; end = 25; count = 0; room = room }

ready : (name : FileName) (head : LogHead) (made log : LogState) → made ≡ empty_log name head 0 → log ≡ record made { room = log.room } → log ≡ empty_log name head log.room
ready name head made log is same = same ∙ ap (λ (l : LogState). record l { room = log.room }) is

-- it is held, whatever its room
pub ready-holds : (made log : LogState) (h : Option History) → log ≡ record made { room = log.room } → Holds made [] h → Holds log [] h
ready-holds made log h same holds = subst (λ (l : LogState). Holds l [] h) (sym same) (if_told-map _ _ h (λ disk k. record {
  reads = record { file = k.reads.file; end = k.reads.end; count = k.reads.count; head_fits = k.reads.head_fits; entries_fit = k.reads.entries_fit };
  keeps = k.keeps;
}) holds)

-- while the entry is added
pub entry-images : (name : FileName) (head : LogHead) (entry : List ℕ) (made log : LogState) (old now new : Option History) → made ≡ empty_log name head 0 → log ≡ record made { room = log.room }
    → NamedButFor name old now
    → EachImage (λ _ image. IfTold old (λ before. IsAtMostAsLong 26 (before name) (image name)) × OthersStay name old image) old now
    → EachImage (λ _ image. IsLogWithOrWithout log.head [] entry (image log.name) × OthersStay log.name now image) now new
    → EachImage (λ _ image. IsMaking name head entry old image) old new
entry-images name head entry made log old now new is same named first each =
    let e : log ≡ empty_log name head log.room = ready name head made log is same in
    let F : LogState → Type 0 = λ l. EachImage (λ _ image. IsLogWithOrWithout l.head [] entry (image l.name) × OthersStay l.name now image) now new in
    each_image-then _ old now new (first-images name head entry old now first)
    (each_image-map _ _ now new (λ m image i. (if_told-all _ old (λ disk. inr i.0), others-named name old now image named i.1)) (subst F e each))
