-- A sync of a file that a disk doesn't tell.
use Rattle.folder_disk.proofs.Common.{◌≡◌, ◌⊎◌, inl, inr, ℕ, ◌==◌, ◌<◌, ◌≤◌, Bool, true, false, if◌then◌else◌, List, length, slice_get, Option, Some, None, refl, sym, ◌∙◌, ap, subst, arith, ∥∥₁_map, cond-true, FileState, DiskState, synced, FileName, path_text, IsStoreFile, folder_at, Node, Nothing}
use Rattle.folder_disk.proofs.Common.{PlainFile, AFolder, Another, System, IsSystem, MayStand, with_content, with_synced_file, Modelled, IfModelled, IsDoneOrNot, HasPassed, done_by, octets_at, CoversFile, StaysFolder, FollowsSystem, IsSoundSystem, HasNoFile, IsUnseen, IsDiskOf}
use Rattle.std.proofs.lemmas.Bool.{cases_eq}
use Rattle.folder_model.specs.System.{IsContent}
use Rattle.disk_files.specs.Follows.{FollowsPath}
use Rattle.disk_files.proofs.StepLemmas.{stays-like, content-same, content-apart}
use Rattle.folder_disk.specs.Files.{HasDurableFile}
use Rattle.folder_disk.proofs.ChangeLemmas.{content_stays}
use Rattle.folder_disk.proofs.UnseenLemmas.{unseen_step}

if_sound : (sound : Bool) (f g : FileState) → CoversFile g f → IsContent f → CoversFile g (if sound then synced f else f)
if_sound false f g covers is = covers
if_sound true f g covers is =
    let wide_least : g.least ≤ f.least = covers.least in
    let least : f.least ≤ length f.octets = is.least in
    let wide_greatest : f.greatest ≤ g.greatest = covers.greatest in
    let greatest : length f.octets ≤ f.greatest = is.greatest in
    record { least = omega (arith, wide_least, least); greatest = omega (arith, wide_greatest, greatest); firm = λ i below firm. refl; same = covers.same }

octets_if : (sound : Bool) (f : FileState) → (if sound then synced f else f).octets ≡ f.octets
octets_if true f = refl
octets_if false f = refl

-- the content of each file, after a sync of one
synced_content : (number n : ℕ) (s : System) (P : FileState → Type 0) → (n ≡ number → P (if s.is_sound then synced (s.content n) else s.content n)) → P (s.content n) → P ((with_synced_file number s).content n)
synced_content number n s P here elsewhere = elim (cases_eq n number) [
  | inl is ↦
      let F : ℕ → Type 0 = λ k. P ((with_synced_file number s).content k) in
      let G : ℕ → Type 0 = λ k. P (if s.is_sound then synced (s.content k) else s.content k) in
      subst F (sym is) (subst P (sym (content-same number (λ f. if s.is_sound then synced f else f) s)) (subst G is (here is)))
  | inr apart ↦ subst P (sym (content-apart number n (λ f. if s.is_sound then synced f else f) s apart)) elsewhere
]

settled_octets : (number : ℕ) (s : System) (node : Node) → octets_at s node ≡ octets_at (with_synced_file number s) node
settled_octets number s Nothing = refl
settled_octets number s (PlainFile n) = synced_content number n s (λ f. Some (s.content n).octets ≡ Some f.octets) (λ e. ap Some (sym (octets_if s.is_sound (s.content n)))) refl
settled_octets number s AFolder = refl
settled_octets number s Another = refl

settled_follows : (number : ℕ) (disk : DiskState) (s : System) → IsSystem s → FollowsSystem disk s → FollowsSystem disk (with_synced_file number s)
settled_follows number disk s system follows name file =
    let path = path_text name in
    let old = follows name file in
    record {
      reads = old.reads ∙ settled_octets number s (s.node path);
      holds = λ n may. synced_content number n s (CoversFile (disk name)) (λ e. if_sound s.is_sound (s.content n) (disk name) (old.holds n may) (system.contents n)) (old.holds n may);
      firm = old.firm;
      stays = λ firm there. stays-like s (with_synced_file number s) (λ p node may. may) (folder_at path) (old.stays firm there);
    }

-- a file was synced where no change is told
pub settled_unseen : (number : ℕ) (old new : Option Modelled) (before after : List System) → IfModelled old IsSystem → new ≡ done_by (with_synced_file number) old → HasPassed old before new after
    → IsUnseen old before new after false
settled_unseen number old new before after system done has =
    unseen_step (with_synced_file number) IsSystem old new before after (λ s. refl)
    (λ disk s is d. record { follows = settled_follows number disk s is d.follows; system = content_stays number (λ f. if s.is_sound then synced f else f) s d.system }) system done has

abbrev node_number : Node → ℕ
node_number Nothing = 0
node_number (PlainFile number) = number
node_number AFolder = 0
node_number Another = 0

-- a file that was synced is durable
pub settled_durable : (path : List ℕ) (k : ℕ) (old new : Option Modelled) → IsSoundSystem old → IfModelled old (λ s. s.node path ≡ PlainFile k) → new ≡ done_by (with_synced_file k) old → IfModelled new (HasDurableFile path)
settled_durable path k None new sound stands done = let F : Option Modelled → Type 0 = λ n. IfModelled n (HasDurableFile path) in subst F (sym done) tt
settled_durable path k (Some m) new sound stands done =
    let F : Option Modelled → Type 0 = λ n. IfModelled n (HasDurableFile path) in
    subst F (sym done) (λ number there.
    let same : k ≡ number = ap node_number (sym stands ∙ there) in
    let G : ℕ → Type 0 = λ n. (with_synced_file k m.now).content n ≡ synced ((with_synced_file k m.now).content n) in
    let f = m.now.content k in
    let is : (with_synced_file k m.now).content k ≡ synced f = content-same k (λ g. if m.now.is_sound then synced g else g) m.now ∙ cond-true m.now.is_sound (synced f) f sound in
    let again : synced (synced f) ≡ synced f = refl in
    subst G same (is ∙ sym again ∙ sym (ap synced is)))

pub none_durable : (path : List ℕ) (old new : Option Modelled) → IfModelled old (λ s. HasNoFile s path) → new ≡ old → IfModelled new (HasDurableFile path)
none_durable path None new none same = let F : Option Modelled → Type 0 = λ n. IfModelled n (HasDurableFile path) in subst F (sym same) tt
none_durable path (Some m) new none same = let F : Option Modelled → Type 0 = λ n. IfModelled n (HasDurableFile path) in subst F (sym same) (λ number there. absurd (none number there))
