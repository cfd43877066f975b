-- What a disk reads is what the system does.
use Rattle.folder_disk.proofs.Common.{◌≡◌, ◌≢◌, ℕ, Bool, false, List, length, take, Option, Some, None, Result, Ok, Err, IfSome, IfNone, refl, inl, sym, ◌∙◌, ap, subst, ∥∥₁_elim, props, cond-false, History, IfTold, after, reading, BTreeSet, FileName, ghosts, path_text, IsStoreFile, Node, Nothing}
use Rattle.folder_disk.proofs.Common.{PlainFile, AFolder, Another, System, Modelled, IfModelled, octets_at, reads_there, Change, HasFileAt, HasNoFile, IsSettledLog, IsDiskOver, told_history}
use Rattle.std.proofs.Common.{drop, IfOk}
use Rattle.std.specs.Option.{option_map}
use Rattle.disk_model.specs.Disk.{Unchanged}
use Rattle.folder_model.specs.declared.folder.CallError.{CallError}
use Rattle.folder_disk.proofs.OverLemmas.{so_far}

-- the file reads what stands at its path
reads_path : (m : Modelled) (past : List System) (changes : List (Change × List ℕ)) (spoiled : Bool) (name : FileName) (path : List ℕ) (left : Option (List ℕ))
    → ∥ IsDiskOver (Some m) past changes spoiled ∥₁ → spoiled ≡ false → IsStoreFile name → path ≡ path_text name → octets_at m.now (m.now.node path) ≡ left
    → reading ((so_far m changes).now name) ≡ left
reads_path m past changes spoiled name path left over un file is at =
    ∥∥₁_elim over (hlevel props) (λ o. ((o.is un).follows name file).reads) ∙ ap (λ p. octets_at m.now (m.now.node p)) (sym is) ∙ at

has_octets : (s : System) (path : List ℕ) (number : ℕ) → s.node path ≡ PlainFile number → octets_at s (s.node path) ≡ Some (s.content number).octets
has_octets s path number stands = ap (octets_at s) stands

no_octets : (s : System) (node : Node) → ((n : ℕ) → node ≢ PlainFile n) → octets_at s node ≡ None
no_octets s Nothing none = refl
no_octets s (PlainFile n) none = absurd (none n refl)
no_octets s AFolder none = refl
no_octets s Another none = refl

-- the file's length
pub length_told : (m : Option Modelled) (past : List System) (changes : List (Change × List ℕ)) (spoiled : Bool) (name : FileName) (path : List ℕ) (n : ℕ)
    → ∥ IsDiskOver m past changes spoiled ∥₁ → spoiled ≡ false → IsStoreFile name → path ≡ path_text name
    → IfModelled m (λ s. HasFileAt s path (λ number. n ≡ length (s.content number).octets))
    → IfTold (told_history m changes) (λ disk. option_map length (reading (disk name)) ≡ Some n)
length_told None past changes spoiled name path n over un file is has = tt
length_told (Some m) past changes spoiled name path n over un file is has =
    ap (option_map length) (reads_path m past changes spoiled name path (Some (m.now.content has.0).octets) over un file is (has_octets m.now path has.0 has.1)) ∙ ap Some (sym has.2)

-- what was read of it
pub octets_told : (m : Option Modelled) (past : List System) (changes : List (Change × List ℕ)) (spoiled : Bool) (name : FileName) (path : List ℕ) (offset size n : ℕ) (into : List ℕ)
    → ∥ IsDiskOver m past changes spoiled ∥₁ → spoiled ≡ false → IsStoreFile name → path ≡ path_text name
    → IfModelled m (λ s. HasFileAt s path (λ number. take n into ≡ take size (drop offset (s.content number).octets)))
    → IfTold (told_history m changes) (λ disk. (reading (disk name) ≡ Some (disk name).octets) × (take n into ≡ take size (drop offset (disk name).octets)))
octets_told None past changes spoiled name path offset size n into over un file is has = tt
octets_told (Some m) past changes spoiled name path offset size n into over un file is has =
    let f = (so_far m changes).now name in
    let reads = reads_path m past changes spoiled name path (Some (m.now.content has.0).octets) over un file is (has_octets m.now path has.0 has.1) in
    let there = reads_there f (m.now.content has.0).octets reads in
    (reads ∙ ap Some (sym there.1), has.2 ∙ ap (λ l. take size (drop offset l)) (sym there.1))

-- no file stands there
pub none_told : (m : Option Modelled) (past : List System) (changes : List (Change × List ℕ)) (spoiled : Bool) (name : FileName) (path : List ℕ)
    → ∥ IsDiskOver m past changes spoiled ∥₁ → spoiled ≡ false → IsStoreFile name → path ≡ path_text name → IfModelled m (λ s. HasNoFile s path)
    → IfTold (told_history m changes) (λ disk. reading (disk name) ≡ None)
none_told None past changes spoiled name path over un file is none = tt
none_told (Some m) past changes spoiled name path over un file is none =
    reads_path m past changes spoiled name path None over un file is (no_octets m.now (m.now.node path) none)

-- the name is that of no file
pub other_told : (m : Option Modelled) (past : List System) (changes : List (Change × List ℕ)) (spoiled : Bool) (name : FileName)
    → ∥ IsDiskOver m past changes spoiled ∥₁ → (IsStoreFile name → ⊥) → IfTold (told_history m changes) (λ disk. reading (disk name) ≡ None)
other_told None past changes spoiled name over other = tt
other_told (Some m) past changes spoiled name over other =
    let f = (so_far m changes).now name in
    ∥∥₁_elim over (hlevel props) (λ o. cond-false f.is_there (Some f.octets) None (o.disk.none name other))

-- The same of an answer of a call, for what the disk read before.
pub length_found : (r : Result (Option ℕ) CallError) (m : Option Modelled) (past : List System) (changes : List (Change × List ℕ)) (spoiled : Bool) (name : FileName) (path : List ℕ) (told : Option History)
    → told_history m changes ≡ told → ∥ IsDiskOver m past changes spoiled ∥₁ → spoiled ≡ false → IsStoreFile name → path ≡ path_text name
    → IfOk r (λ found. IfSome found (λ n. IfModelled m (λ s. HasFileAt s path (λ number. n ≡ length (s.content number).octets))))
    → IfOk r (λ found. IfSome found (λ n. IfTold told (λ disk. option_map length (reading (disk name)) ≡ Some n)))
length_found (Ok (Some n)) m past changes spoiled name path told so over un file is has =
    let F : Option History → Type 0 = λ h. IfTold h (λ disk. option_map length (reading (disk name)) ≡ Some n) in
    subst F so (length_told m past changes spoiled name path n over un file is has)
length_found (Ok None) m past changes spoiled name path told so over un file is has = tt
length_found (Err e) m past changes spoiled name path told so over un file is has = tt

pub octets_found : (r : Result (Option ℕ) CallError) (m : Option Modelled) (past : List System) (changes : List (Change × List ℕ)) (spoiled : Bool) (name : FileName) (path : List ℕ) (offset size : ℕ) (into : List ℕ) (told : Option History)
    → told_history m changes ≡ told → ∥ IsDiskOver m past changes spoiled ∥₁ → spoiled ≡ false → IsStoreFile name → path ≡ path_text name
    → IfOk r (λ found. IfSome found (λ n. IfModelled m (λ s. HasFileAt s path (λ number. take n into ≡ take size (drop offset (s.content number).octets)))))
    → IfOk r (λ found. IfSome found (λ n. IfTold told (λ disk. (reading (disk name) ≡ Some (disk name).octets) × (take n into ≡ take size (drop offset (disk name).octets)))))
octets_found (Ok (Some n)) m past changes spoiled name path offset size into told so over un file is has =
    let F : Option History → Type 0 = λ h. IfTold h (λ disk. (reading (disk name) ≡ Some (disk name).octets) × (take n into ≡ take size (drop offset (disk name).octets))) in
    subst F so (octets_told m past changes spoiled name path offset size n into over un file is has)
octets_found (Ok None) m past changes spoiled name path offset size into told so over un file is has = tt
octets_found (Err e) m past changes spoiled name path offset size into told so over un file is has = tt

pub none_found : (r : Result (Option ℕ) CallError) (m : Option Modelled) (past : List System) (changes : List (Change × List ℕ)) (spoiled : Bool) (name : FileName) (path : List ℕ) (told : Option History)
    → told_history m changes ≡ told → ∥ IsDiskOver m past changes spoiled ∥₁ → spoiled ≡ false → IsStoreFile name → path ≡ path_text name
    → IfOk r (λ found. IfNone found (IfModelled m (λ s. HasNoFile s path)))
    → IfOk r (λ found. IfNone found (IfTold told (λ disk. reading (disk name) ≡ None)))
none_found (Ok (Some n)) m past changes spoiled name path told so over un file is has = tt
none_found (Ok None) m past changes spoiled name path told so over un file is has =
    let F : Option History → Type 0 = λ h. IfTold h (λ disk. reading (disk name) ≡ None) in
    subst F so (none_told m past changes spoiled name path over un file is has)
none_found (Err e) m past changes spoiled name path told so over un file is has = tt

pub other_found : (m : Option Modelled) (past : List System) (changes : List (Change × List ℕ)) (spoiled : Bool) (name : FileName) (told : Option History)
    → told_history m changes ≡ told → ∥ IsDiskOver m past changes spoiled ∥₁ → (IsStoreFile name → ⊥) → IfTold told (λ disk. reading (disk name) ≡ None)
other_found m past changes spoiled name told so over other =
    let F : Option History → Type 0 = λ h. IfTold h (λ disk. reading (disk name) ≡ None) in
    subst F so (other_told m past changes spoiled name over other)

-- a call that changed nothing, of a disk that told the same before
pub unchanged : (old mid new : Option History) → mid ≡ old → new ≡ after (λ disk. disk) mid → Unchanged old new
unchanged old mid new same is = inl (is ∙ ap (after (λ disk. disk)) same)

-- What was read of a log is durable.
pub settled_read : (r : Result (Option ℕ) CallError) (firm : BTreeSet FileName) (name : FileName) (path at : List ℕ) (m n : Option Modelled) → path ≡ at → n ≡ m → IsSettledLog ghosts.cmp firm name path m
    → IfOk r (λ found. IfSome found (λ k. IsSettledLog ghosts.cmp firm name at n))
settled_read (Ok (Some k)) firm name path at m n is same settled =
    let F : List ℕ → Type 0 = λ p. IsSettledLog ghosts.cmp firm name p n in
    let G : Option Modelled → Type 0 = λ o. IsSettledLog ghosts.cmp firm name path o in
    subst F is (subst G (sym same) settled)
settled_read (Ok None) firm name path at m n is same settled = tt
settled_read (Err e) firm name path at m n is same settled = tt
