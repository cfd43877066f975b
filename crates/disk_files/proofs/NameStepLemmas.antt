-- Changes of names of the disk and of the system under it.
use Rattle.std.proofs.Common.{◌≡◌, ◌≢◌, ◌⊎◌, inl, inr, ℕ, ◌<◌, ◌≤◌, Bool, true, false, not, ◌||◌, if◌then◌else◌, List, [], ◌∷◌, Some, None, Contains, refl, sym, ◌∙◌, ap, subst, arith}
use Rattle.std.proofs.lemmas.Bool.{cases_Bool, cond-true, cond-false, false≢true}
use Rattle.std.proofs.lemmas.List.Elements.{Contains-append_cases, Contains-push_cases}
use Rattle.disk_model.specs.Disk.{FileState, DiskState, still, no_file, made, removed, named, change, change_all}
use Rattle.disk_model.specs.Name.{same_name, same_octets}
use Rattle.disk_model.specs.declared.name.FileName.{FileName}
use Rattle.disk_model.proofs.NameLemmas.{same_name-true, same_name-eq, same_octets-true, same_octets-refl}
use Rattle.file_paths.specs.Paths.{path_text, IsStoreFile}
use Rattle.file_paths.specs.OneFile.{HaveOwnPaths}
use Rattle.folder_model.specs.Paths.{folder_at}
use Rattle.folder_model.specs.System.{Node, Nothing, PlainFile, AFolder, Another, System, MayStand, IsSystem, IsNumberedNode, with_node, with_new_file, with_synced_names}
use Rattle.disk_files.specs.Follows.{octets_at, CoversFile, StaysFolder, Current, Below, FollowsPath, FollowsSystem, HasDurableNames}
use Rattle.disk_files.proofs.StepLemmas.{stays-like, content-apart, content-same, reads_there}

cons_cases : (x node : Node) (xs : List Node) → Contains (x ∷ xs) node → (node ≡ x) ⊎ Contains xs node
cons_cases x node xs has = elim (Contains-append_cases (x ∷ []) xs node has) [
  | inl first ↦ elim (Contains-push_cases [] x node first) [
    | inl none ↦ absurd (let below : none.0 < 0 = none.1 in omega arith)
    | inr is ↦ inl (sym is)
  ]
  | inr later ↦ inr later
]

-- what may stand after another thing was put at a path
pub may_cases : (path q : List ℕ) (put node : Node) (s : System) → MayStand (with_node path put s) q node → ((q ≡ path) × (node ≡ put)) ⊎ MayStand s q node
may_cases path q put node s may = elim (cases_Bool (same_octets q path)) [
  | inl is ↦ elim may [
    | inl now ↦ inl (same_octets-true q path is, now ∙ cond-true (same_octets q path) put (s.node q) is)
    | inr earlier ↦
        let F : List Node → Type 0 = λ l. Contains l node in
        inr (cons_cases (s.node q) node (s.earlier q) (subst F (cond-true (same_octets q path) (s.node q ∷ s.earlier q) (s.earlier q) is) earlier))
  ]
  | inr apart ↦ elim may [
    | inl now ↦ inr (inl (now ∙ cond-false (same_octets q path) put (s.node q) apart))
    | inr earlier ↦
        let F : List Node → Type 0 = λ l. Contains l node in
        inr (inr (subst F (cond-false (same_octets q path) (s.node q ∷ s.earlier q) (s.earlier q) apart) earlier))
  ]
]

pub node-put : (path : List ℕ) (put : Node) (s : System) → (with_node path put s).node path ≡ put
node-put path put s = cond-true (same_octets path path) put (s.node path) (same_octets-refl path)

pub node-apart : (path q : List ℕ) (put : Node) (s : System) → q ≢ path → (with_node path put s).node q ≡ s.node q
node-apart path q put s apart = elim (cases_Bool (same_octets q path)) [
  | inl is ↦ absurd (apart (same_octets-true q path is))
  | inr differs ↦ cond-false (same_octets q path) put (s.node q) differs
]

-- a folder that a crash leaves is none where another thing may stand
pub stays-put : (path : List ℕ) (put stood : Node) (s : System) → MayStand s path stood → stood ≢ AFolder → (q : List ℕ) → StaysFolder s q → StaysFolder (with_node path put s) q
stays-put path put stood s may other _ Current = Current
stays-put path put stood s may other _ (Below q all above) = Below q
    (λ node after. elim (may_cases path q put node s after) [
      | inl here ↦
          let F : List ℕ → Type 0 = λ p. MayStand s p stood in
          absurd (other (all stood (subst F (sym here.0) may)))
      | inr before ↦ all node before
    ])
    (stays-put path put stood s may other (folder_at q) above)

-- a file at another path, where a thing was put that is no file
put_elsewhere : (path q : List ℕ) (put stood : Node) (f : FileState) (s : System) → MayStand s path stood → stood ≢ AFolder → q ≢ path → FollowsPath f s q → FollowsPath f (with_node path put s) q
put_elsewhere path q put stood f s may other apart follows = record {
  reads = follows.reads ∙ ap (octets_at s) (sym (node-apart path q put s apart)) ∙ same_at (with_node path put s) ((with_node path put s).node q);
  holds = λ number after. follows.holds number (back (PlainFile number) after);
  firm = λ is node after. follows.firm is node (back node after) ∙ sym (node-apart path q put s apart);
  stays = λ is there. stays-put path put stood s may other (folder_at q) (follows.stays is there);
}
  where
    back : (node : Node) → MayStand (with_node path put s) q node → MayStand s q node
    back node after = elim (may_cases path q put node s after) [ inl here ↦ absurd (apart here.0) | inr before ↦ before ]

    same_at : (t : System) (node : Node) → octets_at s node ≡ octets_at (record t { content = s.content }) node
    same_at t Nothing = refl
    same_at t (PlainFile number) = refl
    same_at t AFolder = refl
    same_at t Another = refl

by_name : (P : FileState → Type 0) (name n : FileName) (step : FileState → FileState) (disk : DiskState) → (n ≡ name → P (step (disk n))) → (n ≢ name → P (disk n)) → P (change name step disk n)
unfolding change
by_name P name n step disk here elsewhere = elim (cases_Bool (same_name n name)) [
  | inl is ↦ subst P (sym (cond-true (same_name n name) (step (disk n)) (disk n) is)) (here (same_name-true n name is))
  | inr differs ↦ subst P (sym (cond-false (same_name n name) (step (disk n)) (disk n) differs)) (elsewhere (λ e. false≢true (sym differs ∙ same_name-eq n name e)))
]

or_true : (a b : Bool) → b ≡ true → a || b ≡ true
or_true true b e = refl
or_true false b e = e

-- a file is removed
removed_here : (f : FileState) (s : System) (path : List ℕ) (number : ℕ) → s.node path ≡ PlainFile number → FollowsPath f s path → FollowsPath (removed f) (with_node path Nothing s) path
removed_here f s path number stands follows =
    let reads = reads_there f (s.content number).octets (follows.reads ∙ ap (octets_at s) stands) in
    record {
      reads = sym (ap (octets_at (with_node path Nothing s)) (node-put path Nothing s));
      holds = λ n after.
          let covered : CoversFile f (s.content n) = elim (may_cases path path Nothing (PlainFile n) s after) [
            | inl here ↦ absurd (let e : PlainFile n ≡ Nothing = here.1 in cc)
            | inr before ↦ follows.holds n before
          ] in
          record { least = covered.least; greatest = covered.greatest; firm = covered.firm; same = covered.same };
      firm = λ is node after. absurd (false≢true (sym is ∙ or_true f.is_name_loose f.is_there reads.0));
      stays = λ is there. absurd (false≢true there);
    }

pub removal_follows : (name : FileName) (number : ℕ) (disk : DiskState) (s : System) → HaveOwnPaths → IsStoreFile name → s.node (path_text name) ≡ PlainFile number
    → FollowsSystem disk s → FollowsSystem (change name removed disk) (with_node (path_text name) Nothing s)
removal_follows name number disk s paths file stands follows n is =
    let path = path_text name in
    by_name (λ f. FollowsPath f (with_node path Nothing s) (path_text n)) name n removed disk
    (λ e.
    let F : FileName → Type 0 = λ k. FollowsPath (removed (disk k)) (with_node path Nothing s) (path_text k) in
    subst F (sym e) (removed_here (disk name) s path number stands (follows name file)))
    (λ apart. put_elsewhere path (path_text n) Nothing (PlainFile number) (disk n) s (inl (sym stands)) (λ e. let d : PlainFile number ≡ AFolder = e in cc)
    (λ same. apart (paths n name is file same)) (follows n is))

-- a folder is made where nothing stands
pub folder_follows : (path : List ℕ) (disk : DiskState) (s : System) → s.node path ≡ Nothing → ((name : FileName) → IsStoreFile name → path_text name ≢ path)
    → FollowsSystem disk s → FollowsSystem disk (with_node path AFolder s)
folder_follows path disk s nothing apart follows n is =
    put_elsewhere path (path_text n) AFolder Nothing (disk n) s (inl (sym nothing)) (λ e. let d : Nothing ≡ AFolder = e in cc) (apart n is) (follows n is)

some_of : (sound here : Bool) (earlier : List Node) (node : Node) → Contains (if sound then (if here then [] else earlier) else earlier) node → Contains earlier node
some_of true true earlier node has = absurd (let below : has.0 < 0 = has.1 in omega arith)
some_of true false earlier node has = has
some_of false here earlier node has = has

-- what may stand after a sync of names might before
pub synced_names_back : (folder : List ℕ) (s : System) (path : List ℕ) (node : Node) → MayStand (with_synced_names folder s) path node → MayStand s path node
synced_names_back folder s path node (inl now) = inl now
synced_names_back folder s path node (inr earlier) = inr (some_of s.is_sound (same_octets (folder_at path) folder) (s.earlier path) node earlier)

octets_kept : (folder : List ℕ) (s : System) (node : Node) → octets_at s node ≡ octets_at (with_synced_names folder s) node
octets_kept folder s Nothing = refl
octets_kept folder s (PlainFile number) = refl
octets_kept folder s AFolder = refl
octets_kept folder s Another = refl

-- the names of a folder are synced
pub names_kept : (folder : List ℕ) (disk : DiskState) (s : System) → FollowsSystem disk s → FollowsSystem disk (with_synced_names folder s)
names_kept folder disk s follows n is =
    let path = path_text n in
    let old = follows n is in
    record {
      reads = old.reads ∙ octets_kept folder s (s.node path);
      holds = λ number may. old.holds number (synced_names_back folder s path (PlainFile number) may);
      firm = λ firm node may. old.firm firm node (synced_names_back folder s path node may);
      stays = λ firm there. stays-like s (with_synced_names folder s) (synced_names_back folder s) (folder_at path) (old.stays firm there);
    }

-- what reads as a file is one
pub file_there : (s : System) (node : Node) (octets : List ℕ) → octets_at s node ≡ Some octets → (number : ℕ) × (node ≡ PlainFile number)
file_there s Nothing octets e = absurd (let d : None ≡ Some octets = e in cc)
file_there s (PlainFile number) octets e = (number, refl)
file_there s AFolder octets e = absurd (let d : None ≡ Some octets = e in cc)
file_there s Another octets e = absurd (let d : None ≡ Some octets = e in cc)

named_there : (f : FileState) (s : System) (name : FileName) → IsStoreFile name → HasDurableNames s → f.is_there ≡ true → FollowsPath f s (path_text name)
    → FollowsPath (record f { is_name_loose = false }) s (path_text name)
named_there f s name file durable there follows =
    let path = path_text name in
    let stands = file_there s (s.node path) f.octets (sym follows.reads ∙ cond-true f.is_there (Some f.octets) None there) in
    record {
      reads = follows.reads;
      holds = λ number may.
          let covered : CoversFile f (s.content number) = follows.holds number may in
          record { least = covered.least; greatest = covered.greatest; firm = covered.firm; same = covered.same };
      firm = λ firm node may. durable.stays name file node may;
      stays = λ firm there. durable.folders name stands.0 file stands.1;
    }

named_gone : (f : FileState) (s : System) (name : FileName) → IsStoreFile name → HasDurableNames s → f.is_there ≡ false → FollowsPath f s (path_text name)
    → FollowsPath no_file s (path_text name)
named_gone f s name file durable gone follows =
    let path = path_text name in
    let none : None ≡ octets_at s (s.node path) = sym (cond-false f.is_there (Some f.octets) None gone) ∙ follows.reads in
    record {
      reads = none;
      holds = λ number may.
          absurd (let e : None ≡ Some (s.content number).octets = none ∙ ap (octets_at s) (sym (durable.stays name file (PlainFile number) may)) in cc);
      firm = λ firm node may. durable.stays name file node may;
      stays = λ firm there. absurd (false≢true there);
    }

-- all names are durable
pub names_follow : (disk : DiskState) (s : System) → HasDurableNames s → FollowsSystem disk s → FollowsSystem (change_all named disk) s
names_follow disk s durable follows n is =
    let f = disk n in
    let F : FileState → Type 0 = λ g. FollowsPath g s (path_text n) in
    elim (cases_Bool f.is_there) [
      | inl there ↦ subst F (sym (cond-true f.is_there (record f { is_name_loose = false }) no_file there)) (named_there f s n is durable there (follows n is))
      | inr gone ↦ subst F (sym (cond-false f.is_there (record f { is_name_loose = false }) no_file gone)) (named_gone f s n is durable gone (follows n is))
    ]

-- what may stand has a number below the next one's
pub numbered : (s : System) (path : List ℕ) (number : ℕ) → IsSystem s → MayStand s path (PlainFile number) → number < s.count
numbered s path number system (inl now) = let F : Node → Type 0 = IsNumberedNode s.count in subst F (sym now) (system.nodes path)
numbered s path number system (inr earlier) =
    let F : Node → Type 0 = IsNumberedNode s.count in
    subst F earlier.2 (system.earlier path earlier.0 (PlainFile number) earlier.1)

-- before a new file was made
pub new_cases : (s : System) (path q : List ℕ) (node : Node) → MayStand (with_new_file path s) q node → ((q ≡ path) × (node ≡ PlainFile s.count)) ⊎ MayStand s q node
new_cases s path q node may = may_cases path q (PlainFile s.count) node s may

new_content : (s : System) (path : List ℕ) → (with_new_file path s).content s.count ≡ still []
new_content s path = content-same s.count (λ _. still []) (with_node path (PlainFile s.count) s)

old_content : (s : System) (path : List ℕ) (n : ℕ) → n < s.count → (with_new_file path s).content n ≡ s.content n
old_content s path n below = content-apart s.count n (λ _. still []) (with_node path (PlainFile s.count) s) (λ same. absurd (omega (arith, below, same)))

-- a new file stands where nothing did
made_here : (f : FileState) (s : System) (path : List ℕ) → s.node path ≡ Nothing → FollowsPath f s path → IsSystem s → FollowsPath (made f) (with_new_file path s) path
made_here f s path nothing follows system =
    let t = with_new_file path s in
    let gone : f.is_there ≡ false = elim (cases_Bool f.is_there) [
      | inl there ↦ absurd (let e : Some f.octets ≡ None = sym (cond-true f.is_there (Some f.octets) None there) ∙ follows.reads ∙ ap (octets_at s) nothing in cc)
      | inr gone ↦ gone
    ] in
    let loose : (made f).is_name_loose ≡ true = or_true f.is_name_loose (not f.is_there) (ap not gone) in
    record {
      reads = ap (λ (g : FileState). Some g.octets) (sym (new_content s path))
          ∙ sym (ap (octets_at t) (node-put path (PlainFile s.count) s));
      holds = λ number may. record {
        least = omega arith;
        greatest = elim (new_cases s path path (PlainFile number) may) [
          | inl here ↦
              let is : number ≡ s.count = let e : PlainFile number ≡ PlainFile s.count = here.1 in cc in
              let F : ℕ → Type 0 = λ n. (t.content n).greatest ≤ f.greatest in
              let G : FileState → Type 0 = λ g. g.greatest ≤ f.greatest in
              subst F (sym is) (subst G (sym (new_content s path)) (omega arith))
          | inr before ↦
              let G : FileState → Type 0 = λ g. g.greatest ≤ f.greatest in
              subst G (sym (old_content s path number (numbered s path number system before))) (follows.holds number before).greatest
        ];
        firm = λ i below is. absurd (let b : i < 0 = below in omega arith);
        same = λ i below is. absurd (let b : i < 0 = below in omega arith);
      };
      firm = λ is node may. absurd (false≢true (sym is ∙ loose));
      stays = λ is there. absurd (false≢true (sym is ∙ loose));
    }

made_elsewhere : (f : FileState) (s : System) (path q : List ℕ) → s.node path ≡ Nothing → q ≢ path → IsSystem s → FollowsPath f s q → FollowsPath f (with_new_file path s) q
made_elsewhere f s path q nothing apart system follows =
    let t = with_new_file path s in
    let u = with_node path (PlainFile s.count) s in
    record {
      reads = follows.reads ∙ octets_old (s.node q) (system.nodes q) ∙ ap (octets_at t) (sym (node-apart path q (PlainFile s.count) s apart));
      holds = λ number after.
          let before = back (PlainFile number) after in
          let F : FileState → Type 0 = CoversFile f in
          subst F (sym (old_content s path number (numbered s q number system before))) (follows.holds number before);
      firm = λ is node after. follows.firm is node (back node after) ∙ sym (node-apart path q (PlainFile s.count) s apart);
      stays = λ is there.
          let e : Nothing ≢ AFolder = λ same. let d : Nothing ≡ AFolder = same in cc in
          stays-like u t (λ p node m. m) (folder_at q) (stays-put path (PlainFile s.count) Nothing s (inl (sym nothing)) e (folder_at q) (follows.stays is there));
    }
  where
    back : (node : Node) → MayStand (with_new_file path s) q node → MayStand s q node
    back node after = elim (new_cases s path q node after) [ inl here ↦ absurd (apart here.0) | inr before ↦ before ]

    octets_old : (node : Node) → IsNumberedNode s.count node → octets_at s node ≡ octets_at (with_new_file path s) node
    octets_old Nothing below = refl
    octets_old (PlainFile n) below = ap (λ (g : FileState). Some g.octets) (sym (old_content s path n below))
    octets_old AFolder below = refl
    octets_old Another below = refl

-- a file is made where nothing stands
pub making_follows : (name : FileName) (disk : DiskState) (s : System) → HaveOwnPaths → IsStoreFile name → IsSystem s → s.node (path_text name) ≡ Nothing
    → FollowsSystem disk s → FollowsSystem (change name made disk) (with_new_file (path_text name) s)
making_follows name disk s paths file system nothing follows n is =
    let path = path_text name in
    by_name (λ f. FollowsPath f (with_new_file path s) (path_text n)) name n made disk
    (λ e.
    let F : FileName → Type 0 = λ k. FollowsPath (made (disk k)) (with_new_file path s) (path_text k) in
    subst F (sym e) (made_here (disk name) s path nothing (follows name file) system))
    (λ apart. made_elsewhere (disk n) s path (path_text n) nothing (λ same. apart (paths n name is file same)) system (follows n is))
