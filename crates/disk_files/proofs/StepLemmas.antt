-- Changes of a file of the disk and of the system's file under it.
use Rattle.std.proofs.Common.{◌≡◌, ◌≢◌, inl, inr, ℕ, ◌==◌, ◌≤◌, Bool, true, false, ◌||◌, if◌then◌else◌, List, length, take, slice_get, Some, None, refl, sym, ◌∙◌, ap, subst, arith}
use Rattle.std.proofs.lemmas.Bool.{cases_Bool, cond-true, cond-false, eqb-true, eq-eqb, false≢true}
use Rattle.std.proofs.lemmas.Bool.Decides.{nat_tests}
use Rattle.disk_model.specs.Disk.{FileState, DiskState, reading, covers, overlaid, written, cut_to, synced, change}
use Rattle.disk_model.specs.Name.{same_name}
use Rattle.disk_model.specs.declared.name.FileName.{FileName}
use Rattle.disk_model.proofs.NameLemmas.{same_name-true, same_name-eq}
use Rattle.file_paths.specs.Paths.{path_text, IsStoreFile}
use Rattle.file_paths.specs.OneFile.{HaveOwnPaths}
use Rattle.folder_model.specs.Paths.{folder_at, IsPath}
use Rattle.disk_files.proofs.SpelledLemmas.{spelled}
use Rattle.folder_model.specs.System.{Node, Nothing, PlainFile, AFolder, Another, System, MayStand, IsHalfWritten, with_content}
use Rattle.disk_files.specs.Follows.{octets_at, CoversFile, StaysFolder, Current, Below, FollowsPath, FollowsSystem, HasOwnFiles, ChangesAlike, half_written_as}

-- a folder that a crash leaves, where fewer things may stand
pub stays-like : (s t : System) → ((path : List ℕ) (node : Node) → MayStand t path node → MayStand s path node) → (path : List ℕ) → StaysFolder s path → StaysFolder t path
stays-like s t fewer _ Current = Current
stays-like s t fewer _ (Below path all above) = Below path (λ node may. all node (fewer path node may)) (stays-like s t fewer (folder_at path) above)

pub content-same : (number : ℕ) (other : FileState → FileState) (s : System) → (with_content number other s).content number ≡ other (s.content number)
content-same number other s = cond-true (number == number) _ _ (eq-eqb number number refl)

pub content-apart : (number n : ℕ) (other : FileState → FileState) (s : System) → n ≢ number → (with_content number other s).content n ≡ s.content n
content-apart number n other s apart = elim (cases_Bool (n == number)) [
  | inl is ↦ absurd (apart (eqb-true n number is))
  | inr differs ↦ cond-false (n == number) _ _ differs
]

-- a file that reads these octets is there
pub reads_there : (f : FileState) (octets : List ℕ) → reading f ≡ Some octets → (f.is_there ≡ true) × (f.octets ≡ octets)
reads_there f octets reads = elim (cases_Bool f.is_there) [
  | inl there ↦ (there, let e : Some f.octets ≡ Some octets = sym (cond-true f.is_there (Some f.octets) None there) ∙ reads in cc)
  | inr gone ↦ absurd (let e : None ≡ Some octets = sym (cond-false f.is_there (Some f.octets) None gone) ∙ reads in cc)
]

module _ (number : ℕ) (step other : FileState → FileState) (s : System) where
  -- the file that changes
  here : (f : FileState) (path : List ℕ) → HasOwnFiles s → IsPath path → s.node path ≡ PlainFile number → ChangesAlike step other f (s.content number) → FollowsPath f s path
      → FollowsPath (step f) (with_content number other s) path
  here f path owns is_path stands alike follows =
      let g = s.content number in
      let reads : (f.is_there ≡ true) × (f.octets ≡ g.octets) = reads_there f g.octets (follows.reads ∙ ap (octets_at s) stands) in
      let may : MayStand s path (PlainFile number) = inl (sym stands) in
      record {
        reads = cond-true (step f).is_there (Some (step f).octets) None (alike.there ∙ reads.0)
            ∙ ap Some (alike.octets reads.1) ∙ ap (λ (h : FileState). Some h.octets) (sym (content-same number other s))
            ∙ ap (octets_at (with_content number other s)) (sym stands);
        holds = λ n stand.
            let F : ℕ → Type 0 = λ k. CoversFile (step f) ((with_content number other s).content k) in
            let G : FileState → Type 0 = λ h. CoversFile (step f) h in
            subst F (owns.one path number n is_path may stand) (subst G (sym (content-same number other s)) (alike.covers reads.1 (follows.holds number may)));
        firm = λ is node stand. follows.firm (sym alike.loose ∙ is) node stand;
        stays = λ is there. stays-like s (with_content number other s) (λ p node m. m) (folder_at path) (follows.stays (sym alike.loose ∙ is) (sym alike.there ∙ there));
      }

  octets_apart : (node : Node) → node ≢ PlainFile number → octets_at (with_content number other s) node ≡ octets_at s node
  octets_apart Nothing apart = refl
  octets_apart (PlainFile n) apart = ap (λ (h : FileState). Some h.octets) (content-apart number n other s (λ same. apart (ap PlainFile same)))
  octets_apart AFolder apart = refl
  octets_apart Another apart = refl

  -- a file at another path
  elsewhere : (f : FileState) (path own : List ℕ) → HasOwnFiles s → IsPath path → IsPath own → s.node own ≡ PlainFile number → path ≢ own → FollowsPath f s path → FollowsPath f (with_content number other s) path
  elsewhere f path own owns is_path is_own stands apart follows =
      let may : MayStand s own (PlainFile number) = inl (sym stands) in
      record {
        reads = follows.reads ∙ sym (octets_apart (s.node path) (λ same. apart (owns.own path own number is_path is_own (inl (sym same)) may)));
        holds = λ n stand.
            let F : FileState → Type 0 = λ h. CoversFile f h in
            let G : ℕ → Type 0 = λ k. MayStand s path (PlainFile k) in
            subst F (sym (content-apart number n other s (λ same. apart (owns.own path own number is_path is_own (subst G same stand) may)))) (follows.holds n stand);
        firm = λ is node stand. follows.firm is node stand;
        stays = λ is there. stays-like s (with_content number other s) (λ p node m. m) (folder_at path) (follows.stays is there);
      }

  -- a change of one file's content
  pub content_follows : (name : FileName) (disk : DiskState) → HaveOwnPaths → HasOwnFiles s → IsStoreFile name → s.node (path_text name) ≡ PlainFile number
      → ChangesAlike step other (disk name) (s.content number) → FollowsSystem disk s → FollowsSystem (change name step disk) (with_content number other s)
  unfolding change
  content_follows name disk paths owns file stands alike follows n is = elim (cases_Bool (same_name n name)) [
    | inl same ↦
        let e : n ≡ name = same_name-true n name same in
        let F : FileState → Type 0 = λ f. FollowsPath f (with_content number other s) (path_text n) in
        let G : FileName → Type 0 = λ k. FollowsPath (step (disk k)) (with_content number other s) (path_text k) in
        subst F (sym (cond-true (same_name n name) (step (disk n)) (disk n) same)) (subst G (sym e) (here (disk name) (path_text name) owns (spelled name file) stands alike (follows name file)))
    | inr other_name ↦
        let F : FileState → Type 0 = λ f. FollowsPath f (with_content number other s) (path_text n) in
        let apart : path_text n ≢ path_text name = λ same. apart_names n name other_name (paths n name is file same) in
        subst F (sym (cond-false (same_name n name) (step (disk n)) (disk n) other_name)) (elsewhere (disk n) (path_text n) (path_text name) owns (spelled n is) (spelled name file) stands apart (follows n is))
  ]
    where
      apart_names : (a b : FileName) → same_name a b ≡ false → a ≢ b
      apart_names a b differs e = false≢true (sym differs ∙ same_name-eq a b e)

or_false : (a b : Bool) → a || b ≡ false → (a ≡ false) × (b ≡ false)
or_false true b e = absurd (false≢true (sym e))
or_false false b e = (refl, e)

or_false_from : (a b : Bool) → a ≡ false → b ≡ false → a || b ≡ false
or_false_from true b e d = absurd (false≢true (sym e))
or_false_from false b e d = d

pub written-alike : (at : ℕ) (octets : List ℕ) (f g : FileState) → ChangesAlike (written at octets) (written at octets) f g
written-alike at octets f g = record {
  there = refl;
  loose = refl;
  octets = ap (λ l. overlaid l at octets);
  covers = λ same covered. record {
    least = covered.least;
    greatest = let a : g.greatest ≤ f.greatest = covered.greatest in omega arith;
    firm = λ i below is.
        let parts = or_false (f.is_loose i) (covers at (length octets) i) is in
        or_false_from (g.is_loose i) (covers at (length octets) i) (covered.firm i below parts.0) parts.1;
    same = λ i below is. ap (λ l. slice_get (overlaid l at octets) i) (sym same);
  };
}

pub cut-alike : (end : ℕ) (f g : FileState) → ChangesAlike (cut_to end) (cut_to end) f g
cut-alike end f g = record {
  there = refl;
  loose = refl;
  octets = ap (take end);
  covers = λ same covered. record {
    least = let a : f.least ≤ g.least = covered.least in omega arith;
    greatest = covered.greatest;
    firm = λ i below is. covered.firm i (omega (arith, below)) is;
    same = λ i below is. ap (λ l. slice_get (take end l) i) (sym same);
  };
}

pub synced-alike : (sound : Bool) (f g : FileState) → sound ≡ true → ChangesAlike synced (λ h. if sound then synced h else h) f g
synced-alike sound f g is =
    let all : (h : FileState) → synced h ≡ (if sound then synced h else h) = λ h. sym (cond-true sound (synced h) h is) in
    record {
      there = refl;
      loose = refl;
      octets = λ same. same ∙ ap (λ (h : FileState). h.octets) (all g);
      covers = λ same covered.
          let F : FileState → Type 0 = CoversFile (synced f) in
          subst F (all g) (record {
            least = omega (arith, ap length same);
            greatest = omega (arith, ap length same);
            firm = λ i below firm. refl;
            same = λ i below firm. ap (λ l. slice_get l i) (sym same);
          });
    }

-- the same files, whoever has the lock and whether a sync has failed
abbrev pub with_flags : Bool → Bool → System → System
with_flags sound locked s = record s { is_sound = sound; is_locked = locked }

octets_flagged : (sound locked : Bool) (s : System) (node : Node) → octets_at s node ≡ octets_at (with_flags sound locked s) node
octets_flagged sound locked s Nothing = refl
octets_flagged sound locked s (PlainFile number) = refl
octets_flagged sound locked s AFolder = refl
octets_flagged sound locked s Another = refl

pub flags_follow : (sound locked : Bool) (disk : DiskState) (s : System) → FollowsSystem disk s → FollowsSystem disk (with_flags sound locked s)
flags_follow sound locked disk s follows n is =
    let path = path_text n in
    let old = follows n is in
    record {
      reads = old.reads ∙ octets_flagged sound locked s (s.node path);
      holds = λ number may. old.holds number may;
      firm = λ firm node may. old.firm firm node may;
      stays = λ firm there. stays-like s (with_flags sound locked s) (λ p node m. m) (folder_at path) (old.stays firm there);
    }

-- a part of a range
covers-part : (at size n i : ℕ) → size ≤ n → covers at n i ≡ false → covers at size i ≡ false
covers-part at size n i fewer apart = grind (arith, nat_tests)

pub half-alike : (at n : ℕ) (f g h : FileState) → IsHalfWritten at n g h → ChangesAlike (half_written_as at n h.octets) (λ _. h) f g
half-alike at n f g h half = record {
  there = refl;
  loose = refl;
  octets = λ same. refl;
  covers = λ same covered.
      let F : FileState → Type 0 = λ k. CoversFile (half_written_as at n k.octets f) k in
      let fewer : half.size ≤ n = half.at_most in
      subst F (sym half.is) (record {
        least = covered.least;
        greatest = let a : g.greatest ≤ f.greatest = covered.greatest in omega arith;
        firm = λ i below is.
            let parts = or_false (f.is_loose i) (covers at n i) is in
            or_false_from (g.is_loose i) (covers at half.size i) (covered.firm i below parts.0) (covers-part at half.size n i fewer parts.1);
        same = λ i below is. refl;
      });
}
