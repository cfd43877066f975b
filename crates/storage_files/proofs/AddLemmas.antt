-- What a crash may leave of a file to which octets are added.
use Rattle.std.specs.Prelude.{◌⊎◌}
use mir.Syntax.{w8}
use Rattle.std.proofs.Common.{◌≡◌, inl, inr, ℕ, ◌<◌, ◌≤◌, List, ◌++◌, length, take, slice_get, get_or, Fits, Option, Some, None, true, false, min, All, refl, sym, ◌∙◌, subst, ap, arith, length-append, ◌||◌}
use Rattle.std.specs.Option.{option_map}
use Rattle.std.proofs.Math.ListN.{get_or-append}
use Rattle.std.proofs.lemmas.Bool.{cases_Bool, cond-false, or_from, true≢false}
use Rattle.std.proofs.lemmas.Option.{same_Some}
use Rattle.std.proofs.lemmas.List.{length-take, get_or-take}
use Rattle.std.proofs.lemmas.List.Elements.{All-take, All-append, All-from_get_or}
use Rattle.disk_model.specs.Disk.{FileState, DiskState, History, EachImage, SameButFor, MayHold, MayLeave, Reaches, IsThere, Keeps, IfTold, IsImage, Between, after, change, written, half_written, synced, overlaid, covers, reading}
use Rattle.disk_model.specs.declared.name.FileName.{FileName}
use Rattle.disk_model.proofs.MomentLemmas.{if_told-map, if_told-both}
use Rattle.disk_model.proofs.OneFileLemmas.{IsAlong, Along, along-begins, along-goes_on, same_by_get, change-here}
use Rattle.disk_model.proofs.ChangeAndSyncLemmas.{CanNow}
use Rattle.disk_model.proofs.BetweenLemmas.{between-step, between-if}
use Rattle.disk_model.proofs.FirmLemmas.{at_place, reading_from_there}
use Rattle.disk_model.proofs.LeavingLemmas.{covers-before, overlaid-end}
use Rattle.storage_files.specs.OnDisk.{IsAddedTo, IsPieceAdded, IsSyncedFile}

abbrev pub AreOctets : List ℕ → Type 0
AreOctets text = All (λ octet. octet < 256) text

pub are_octets : (xs : List ℕ) → ((i : ℕ) → Fits w8 (get_or xs i 0)) → AreOctets xs
are_octets xs fits = All-from_get_or (λ o. o < 256) xs 0 (λ i l. let f : Fits w8 (get_or xs i 0) = fits i in omega arith)

-- a file that is there and so long, of which a crash may leave what it reads
pub record Stands (end : ℕ) (f : FileState) : Type 0 where
  pub there : f.is_there ≡ true
  pub long : length f.octets ≡ end
  pub least : f.least ≤ end
  pub greatest : end ≤ f.greatest
  pub are_octets : AreOctets f.octets

stands : (f : FileState) (end : ℕ) → option_map length (reading f) ≡ Some end → MayLeave f (reading f) → Stands end f
stands f end long left = elim (cases_Bool f.is_there) [
  | inl there ↦
      let r : reading f ≡ Some f.octets = reading_from_there f there in
      let F : Option (List ℕ) → Type 0 = MayLeave f in
      let h : MayHold f f.octets = subst F r left in
      let l : length f.octets ≡ end = same_Some _ _ (sym (ap (option_map length) r) ∙ long) in
      let a : f.least ≤ length f.octets = h.least in
      let b : length f.octets ≤ f.greatest = h.greatest in
      record { there = there; long = l; least = omega (arith, a, l); greatest = omega (arith, b, l); are_octets = h.are_octets }
  | inr gone ↦ absurd (let n : reading f ≡ None = cond-false f.is_there (Some f.octets) None gone in let s : None ≡ Some end = sym (ap (option_map length) n) ∙ long in cc)
]

pub stands-now : (name : FileName) (end : ℕ) (old : Option History) → IfTold old (λ state. IsImage state (λ n. reading (state n))) → IfTold old (λ now. option_map length (reading (now name)) ≡ Some end)
    → IfTold old (λ disk. Stands end (disk name))
stands-now name end old images long = if_told-both _ _ _ old (λ disk i l. stands (disk name) end l (i name)) images long

-- below the end, one state leaves what another does
pub front_left : (end : ℕ) (f g : FileState) → Stands end f → g.is_there ≡ f.is_there → g.is_name_loose ≡ f.is_name_loose → f.least ≤ g.least
    → ((i : ℕ) → i < end → f.is_loose i ≡ false → (g.is_loose i ≡ false) × (slice_get g.octets i ≡ slice_get f.octets i))
    → (left : Option (List ℕ)) → MayLeave g left → MayLeave f (option_map (take end) left)
front_left end f g s there name least same None (inl gone) = inl (sym there ∙ gone)
front_left end f g s there name least same None (inr loose) = inr (sym name ∙ loose)
front_left end f g s there name least same (Some o) h =
    let shorter : g.least ≤ length o = h.least in
    let long : length (take end o) ≡ min end (length o) = length-take end o in
    let a : f.least ≤ end = s.least in
    let b : end ≤ f.greatest = s.greatest in
    record {
      named = elim h.named [ inl t ↦ inl (sym there ∙ t) | inr l ↦ inr (sym name ∙ l) ];
      least = omega (arith, shorter, least, long, a);
      greatest = omega (arith, long, b);
      same = λ i below firm.
          let within : i < end = omega arith in
          let k = same i within firm in
          at_place (take end o) o i (omega (arith, long, shorter, least, below, within)) (omega (arith, shorter, least, below)) (get_or-take end o i 0 within)
          ∙ h.same i (omega (arith, least, below)) k.0 ∙ k.1;
      are_octets = All-take (λ octet. octet < 256) end o h.are_octets;
    }

pub end_octets : (end : ℕ) (from : List ℕ) (f : FileState) → Stands end f → overlaid f.octets end from ≡ f.octets ++ from
end_octets end from f s = subst (λ (n : ℕ). overlaid f.octets n from ≡ f.octets ++ from) s.long (overlaid-end f.octets from)

end_same : (end : ℕ) (from : List ℕ) (f : FileState) → Stands end f → (i : ℕ) → i < end → slice_get (overlaid f.octets end from) i ≡ slice_get f.octets i
end_same end from f s i below =
    let l = s.long in
    ap (λ (o : List ℕ). slice_get o i) (end_octets end from f s)
    ∙ at_place (f.octets ++ from) f.octets i (omega (arith, length-append f.octets from, l, below)) (omega (arith, l, below)) (get_or-append f.octets from 0 i (omega (arith, l, below)))

pub not_covered : (end n i : ℕ) (f : FileState) → i < end → f.is_loose i ≡ false → (f.is_loose i || covers end n i) ≡ false
not_covered end n i f below firm = or_from (f.is_loose i) (covers end n i) firm (covers-before end n i below)

-- what the images have of the file
abbrev pub P : FileName → ℕ → Option History → Option (List ℕ) → Type 0
P name end old left = IfTold old (λ disk. MayLeave (disk name) (option_map (take end) left))

synced_least : (end : ℕ) (from : List ℕ) (f : FileState) → Stands end f → f.least ≤ length (overlaid f.octets end from)
synced_least end from f s = omega (arith, s.least, s.long, ap length (end_octets end from f s), length-append f.octets from)

pub add-can : (name : FileName) (end : ℕ) (from : List ℕ) (old : Option History) → IfTold old (λ disk. Stands end (disk name)) → CanNow name (written end from) (half_written end (length from)) (P name end old) old
add-can name end from None s = tt
add-can name end from (Some old) s =
    let f : FileState = old.now name in
    record {
      before = λ left h. front_left end f f s refl refl (omega arith) (λ i below firm. (firm, refl)) left h;
      halved = λ left h. front_left end f (half_written end (length from) f) s refl refl (omega arith) (λ i below firm. (not_covered end (length from) i f below firm, refl)) left h;
      changed = λ left h. front_left end f (written end from f) s refl refl (omega arith) (λ i below firm. (not_covered end (length from) i f below firm, end_same end from f s i below)) left h;
      settled = λ left h. front_left end f (synced (written end from f)) s refl refl (synced_least end from f s) (λ i below firm. (refl, end_same end from f s i below)) left h;
      there = s.there;
    }

-- after the call and a sync

added_to : (end : ℕ) (from : List ℕ) (f : FileState) → AreOctets from → Stands end f → (left : Option (List ℕ)) → MayLeave (synced (written end from f)) left → (left ≡ Some (f.octets ++ from)) ⊎ ((left ≡ None) × MayLeave f None)
added_to end from f are s None (inl gone) = absurd (true≢false (sym s.there ∙ gone))
added_to end from f are s None (inr loose) = inr (refl, inr loose)
added_to end from f are s (Some o) h =
    let least : length (overlaid f.octets end from) ≤ length o = h.least in
    let greatest : length o ≤ length (overlaid f.octets end from) = h.greatest in
    let same : o ≡ overlaid f.octets end from = same_by_get o (overlaid f.octets end from) (omega arith) (λ i below. h.same i below refl) in
    inl (ap Some (same ∙ end_octets end from f s))

added_back : (end : ℕ) (from : List ℕ) (f : FileState) → AreOctets from → Stands end f → (left : Option (List ℕ)) → (left ≡ Some (f.octets ++ from)) ⊎ ((left ≡ None) × MayLeave f None) → MayLeave (synced (written end from f)) left
added_back end from f are s left (inl e) =
    let octets : overlaid f.octets end from ≡ f.octets ++ from = end_octets end from f s in
    let long : length (overlaid f.octets end from) ≡ length (f.octets ++ from) = ap length octets in
    let h : MayHold (synced (written end from f)) (f.octets ++ from) = record {
      named = inl s.there;
      least = omega (arith, long);
      greatest = omega (arith, long);
      same = λ i below firm. ap (λ (o : List ℕ). slice_get o i) (sym octets);
      are_octets = All-append (λ octet. octet < 256) f.octets from s.are_octets are;
    } in
    let F : Option (List ℕ) → Type 0 = MayLeave (synced (written end from f)) in
    subst F (sym e) h
added_back end from f are s left (inr (e, gone)) =
    let F : Option (List ℕ) → Type 0 = MayLeave (synced (written end from f)) in
    subst F (sym e) (elim gone [ inl none ↦ absurd (true≢false (sym s.there ∙ none)) | inr loose ↦ inr loose ])

pub added_file : (end : ℕ) (from : List ℕ) (f : FileState) → AreOctets from → Stands end f → IsAddedTo from f (synced (written end from f))
added_file end from f are s = record {
  before = f.octets;
  read = reading_from_there f s.there;
  reads = reading_from_there (synced (written end from f)) s.there ∙ ap Some (end_octets end from f s);
  leaves = λ left. (added_to end from f are s left, added_back end from f are s left);
}

abbrev IsWritten : FileName → ℕ → List ℕ → DiskState → DiskState → Type 0
IsWritten name end from a b = b name ≡ written end from (a name)

-- ---- a piece, without a sync

piece_file : (end : ℕ) (from : List ℕ) (f : FileState) → Stands end f → IsPieceAdded from f (written end from f)
piece_file end from f s = record {
  before = f.octets;
  read = reading_from_there f s.there;
  reads = reading_from_there (written end from f) s.there ∙ ap Some (end_octets end from f s);
  leaves = λ left. left;
}

pub piece-between : (name : FileName) (end : ℕ) (from : List ℕ) (old new : Option History) → IfTold old (λ disk. Stands end (disk name)) → new ≡ after (change name (written end from)) old
    → Between (λ a b. IsPieceAdded from (a name) (b name)) old new
piece-between name end from old new s is =
    between-if (IsWritten name end from) (λ a b. IsPieceAdded from (a name) (b name)) (λ disk. Stands end (disk name)) old new
    (λ a b w st. let F : FileState → Type 0 = λ f. IsPieceAdded from (a name) f in subst F (sym w) (piece_file end from (a name) st))
    (between-step (IsWritten name end from) (change name (written end from)) old new is (λ disk. change-here name (written end from) disk)) s

-- after the change alone
pub changed_images : (name : FileName) (step half : FileState → FileState) (P : Option (List ℕ) → Type 0) (old mid : Option History) → CanNow name step half P old → mid ≡ after (change name step) old → EachImage (IsAlong name P old) old mid
changed_images name step half P old mid can is =
    (along-goes_on name P step old old mid (along-begins name P old (if_told-map _ _ old (λ disk c. c.before) can)) is (if_told-map _ _ old (λ disk c. c.changed) can)).each

pub changed_others : (name : FileName) (step half : FileState → FileState) (P : Option (List ℕ) → Type 0) (old mid : Option History) → CanNow name step half P old → mid ≡ after (change name step) old → SameButFor name old mid
changed_others name step half P old mid can is =
    (along-goes_on name P step old old mid (along-begins name P old (if_told-map _ _ old (λ disk c. c.before) can)) is (if_told-map _ _ old (λ disk c. c.changed) can)).same

-- ---- a sync alone

abbrev pub L : FileName → Option History → Option (List ℕ) → Type 0
L name old left = IfTold old (λ disk. MayLeave (disk name) left)

synced_left : (f : FileState) → f.is_there ≡ true → MayLeave f (reading f) → (left : Option (List ℕ)) → MayLeave (synced f) left → ((left ≡ reading f) ⊎ ((left ≡ None) × MayLeave f None)) × MayLeave f left
synced_left f there reads None (inl gone) = absurd (true≢false (sym there ∙ gone))
synced_left f there reads None (inr loose) = (inr (refl, inr loose), inr loose)
synced_left f there reads (Some o) h =
    let least : length f.octets ≤ length o = h.least in
    let greatest : length o ≤ length f.octets = h.greatest in
    let same : o ≡ f.octets = same_by_get o f.octets (omega arith) (λ i below. h.same i below refl) in
    let is : Some o ≡ reading f = ap Some same ∙ sym (reading_from_there f there) in
    let F : Option (List ℕ) → Type 0 = MayLeave f in
    (inl is, subst F (sym is) reads)

pub sync-along : (name : FileName) (old : Option History) → IfTold old (λ disk. IsImage disk (λ n. reading (disk n))) → Along name (L name old) old old
sync-along name None images = along-begins name (L name None) None tt
sync-along name (Some old) images = along-begins name (L name (Some old)) (Some old) (λ left h. h)

pub sync-holds : (name : FileName) (old : Option History) → IfTold old (λ disk. IsThere (disk name)) → IfTold old (λ disk. IsImage disk (λ n. reading (disk n))) → IfTold old (λ disk. (left : Option (List ℕ)) → MayLeave (synced (disk name)) left → L name old left)
sync-holds name None there images = tt
sync-holds name (Some old) there images = λ left h. (synced_left (old.now name) there (images name) left h).1

pub synced-between : (name : FileName) (old new : Option History) → IfTold old (λ disk. IsThere (disk name)) → IfTold old (λ disk. IsImage disk (λ n. reading (disk n))) → new ≡ after (change name synced) old
    → Between (λ a b. IsSyncedFile (a name) (b name)) old new
synced-between name old new there images is =
    between-if (λ a b. b name ≡ synced (a name)) (λ a b. IsSyncedFile (a name) (b name)) (λ disk. IsThere (disk name) × IsImage disk (λ n. reading (disk n))) old new
    (λ a b w t. let F : FileState → Type 0 = λ f. IsSyncedFile (a name) f in subst F (sym w) (record { reads = refl; leaves = λ left h. (synced_left (a name) t.0 (t.1 name) left h).0 }))
    (between-step (λ a b. b name ≡ synced (a name)) (change name synced) old new is (λ disk. change-here name synced disk)) (if_told-both (λ disk. IsThere (disk name)) (λ disk. IsImage disk (λ n. reading (disk n))) (λ disk. IsThere (disk name) × IsImage disk (λ n. reading (disk n))) old (λ disk a b. (a, b)) there images)

synced_keeps : (text : List ℕ) (f g : FileState) → IsSyncedFile f g → reading f ≡ Some text → (MayLeave f None → ⊥) → MayLeave g (reading g) → Keeps g text
synced_keeps text f g s reads firm own = record {
  reads = s.reads ∙ reads;
  leaves = λ left. (
    λ h. elim (s.leaves left h) [
      | inl is ↦ is ∙ reads
      | inr none ↦ absurd (firm none.1)
    ],
    λ is. let F : Option (List ℕ) → Type 0 = MayLeave g in subst F (s.reads ∙ reads ∙ sym is) own,
  );
}

pub synced-held : (name : FileName) (text : List ℕ) (old new : Option History) → Between (λ a b. IsSyncedFile (a name) (b name)) old new → IfTold new (λ disk. IsImage disk (λ n. reading (disk n)))
    → IfTold old (λ now. (reading (now name) ≡ Some text) × (MayLeave (now name) None → ⊥)) → IfTold new (λ now. Keeps (now name) text)
synced-held name text None new synced images h = let F : Option History → Type 0 = λ k. IfTold k (λ now. Keeps (now name) text) in subst F (sym synced) tt
synced-held name text (Some old) None synced images h = elim synced [ ]
synced-held name text (Some old) (Some new) synced images h = synced_keeps text (old.now name) (new.now name) synced h.0 h.1 (images name)

-- what the calls ask

pub stands-reach : (name : FileName) (end : ℕ) (old : Option History) → IfTold old (λ disk. Stands end (disk name)) → IfTold old (λ disk. Reaches (disk name) end)
stands-reach name end old s = if_told-map _ _ old (λ disk t. (t.there, let l = t.long in omega (arith, l))) s

-- a crash leaves it so, if it did before

held_file : (from text : List ℕ) (f g : FileState) → IsAddedTo from f g → Keeps f text → Keeps g (text ++ from)
held_file from text f g added keeps =
    let same : added.before ≡ text = same_Some _ _ (sym added.read ∙ keeps.reads) in
    let e : added.before ++ from ≡ text ++ from = ap (λ (t : List ℕ). t ++ from) same in
    record {
      reads = added.reads ∙ ap Some e;
      leaves = λ left. (
        λ h. elim ((added.leaves left).0 h) [
          | inl is ↦ is ∙ ap Some e
          | inr none ↦ absurd (let n : None ≡ Some text = (keeps.leaves None).0 none.1 in cc)
        ],
        λ is. (added.leaves left).1 (inl (is ∙ ap Some (sym e))),
      );
    }

pub held-on : (name : FileName) (from text : List ℕ) (old new : Option History) → Between (λ a b. IsAddedTo from (a name) (b name)) old new → IfTold old (λ now. Keeps (now name) text) → IfTold new (λ now. Keeps (now name) (text ++ from))
held-on name from text None new added keeps = let F : Option History → Type 0 = λ h. IfTold h (λ now. Keeps (now name) (text ++ from)) in subst F (sym added) tt
held-on name from text (Some old) None added keeps = elim added [ ]
held-on name from text (Some old) (Some new) added keeps = held_file from text (old.now name) (new.now name) added keeps
