-- A disk follows the system that its process began with.
use Rattle.folder_disk.proofs.Common.{◌≡◌, ◌⊎◌, inl, inr, ℕ, suc, ◌<◌, ◌&&◌, ◌||◌, not, Bool, true, false, if◌then◌else◌, List, [], ◌∷◌, Option, Some, None, Contains, codes, refl, sym, ◌∙◌, ap, subst, arith, cases_Bool, cond-true, cond-false, false≢true, Contains-append_right, FileState, MayLeave}
use Rattle.folder_disk.proofs.Common.{no_file, reading, same_octets, same_octets-true, path_text, folder_at, IsPath, Node, Nothing, PlainFile, AFolder, Another, System, MayStand, IsSystem, first_or_later, octets_at, CoversFile, StaysFolder, FollowsSystem, spelled, is_store_file, IsStoreDisk}
use Rattle.std.proofs.Common.{zero}
use Rattle.folder_model.specs.System.{IsContent}
use Rattle.disk_files.specs.Follows.{Current, Below, FollowsPath, HasOwnFiles}
use Rattle.folder_disk.specs.Start.{is_plain, is_folder, has_none, keeps_folder, first_file, is_loose_path, started, started_at, started_disk}
use Rattle.folder_disk.proofs.NameTestLemmas.{and_parts, file_true, file_from}

unread : (s : System) (loose : Bool) (o : Option ℕ) → reading (started s false loose o) ≡ None
unread s loose None = refl
unread s loose (Some n) = refl

reads_of : (s : System) (node : Node) (earlier : List Node) (loose : Bool) → IsSystem s → reading (started s (is_plain node) loose (first_file (node ∷ earlier))) ≡ octets_at s node
reads_of s Nothing earlier loose is = unread s loose (first_file earlier)
reads_of s (PlainFile n) earlier loose is = refl
reads_of s AFolder earlier loose is = unread s loose (first_file earlier)
reads_of s Another earlier loose is = unread s loose (first_file earlier)

loose_of : (s : System) (there loose : Bool) (o : Option ℕ) → (started s there loose o).is_name_loose ≡ loose
loose_of s there loose None = refl
loose_of s there loose (Some n) = refl

there_of : (s : System) (there loose : Bool) (o : Option ℕ) → (started s there loose o).is_there ≡ true → there ≡ true
there_of s there loose None e = absurd (false≢true e)
there_of s there loose (Some n) e = e

more : (x node : Node) (nodes : List Node) → Contains nodes node → Contains (x ∷ nodes) node
more x node nodes has = Contains-append_right (x ∷ []) nodes node has

-- where a plain file is among these, the first one is found
found : (nodes : List Node) (number : ℕ) → Contains nodes (PlainFile number) → (n : ℕ) × (first_file nodes ≡ Some n) × Contains nodes (PlainFile n)
found [] number has = absurd (let below : has.0 < 0 = has.1 in omega arith)
found (PlainFile k ∷ nodes) number has = (k, refl, (0, omega arith, refl))
found (Nothing ∷ nodes) number has = elim (first_or_later Nothing (PlainFile number) nodes has) [
  | inl e ↦ absurd (let d : PlainFile number ≡ Nothing = e in cc)
  | inr later ↦ let f = found nodes number later in (f.0, f.1, more Nothing (PlainFile f.0) nodes f.2)
]
found (AFolder ∷ nodes) number has = elim (first_or_later AFolder (PlainFile number) nodes has) [
  | inl e ↦ absurd (let d : PlainFile number ≡ AFolder = e in cc)
  | inr later ↦ let f = found nodes number later in (f.0, f.1, more AFolder (PlainFile f.0) nodes f.2)
]
found (Another ∷ nodes) number has = elim (first_or_later Another (PlainFile number) nodes has) [
  | inl e ↦ absurd (let d : PlainFile number ≡ Another = e in cc)
  | inr later ↦ let f = found nodes number later in (f.0, f.1, more Another (PlainFile f.0) nodes f.2)
]

among : (s : System) (path : List ℕ) (node : Node) → MayStand s path node → Contains (s.node path ∷ s.earlier path) node
among s path node (inl now) = (0, omega arith, sym now)
among s path node (inr earlier) = more (s.node path) node (s.earlier path) earlier

stands_among : (s : System) (path : List ℕ) (node : Node) → Contains (s.node path ∷ s.earlier path) node → MayStand s path node
stands_among s path node has = elim (first_or_later (s.node path) node (s.earlier path) has) [ inl now ↦ inl now | inr earlier ↦ inr earlier ]

covers_started : (s : System) (there loose : Bool) (o : Option ℕ) (n : ℕ) → o ≡ Some n → CoversFile (started s there loose o) (s.content n)
covers_started s there loose o n e =
    let F : Option ℕ → Type 0 = λ p. CoversFile (started s there loose p) (s.content n) in
    subst F (sym e) (record { least = omega arith; greatest = omega arith; firm = λ i below is. is; same = λ i below is. refl })

holds_of : (s : System) (path : List ℕ) → HasOwnFiles s → IsPath path → (number : ℕ) → MayStand s path (PlainFile number) → CoversFile (started_at s path) (s.content number)
holds_of s path owns is number may =
    let nodes = s.node path ∷ s.earlier path in
    let f = found nodes number (among s path (PlainFile number) may) in
    let same : f.0 ≡ number = owns.one path f.0 number is (stands_among s path (PlainFile f.0) f.2) may in
    covers_started s (is_plain (s.node path)) (is_loose_path s path) (first_file nodes) number (f.1 ∙ ap Some same)

nothing_earlier : (nodes : List Node) (node : Node) → has_none nodes ≡ true → Contains nodes node → ⊥
nothing_earlier [] node e has = let below : has.0 < 0 = has.1 in omega arith
nothing_earlier (x ∷ nodes) node e has = false≢true e

not_false : (b : Bool) → not b ≡ false → b ≡ true
not_false true e = refl
not_false false e = absurd (false≢true (sym e))

or_right : (a b : Bool) → not a || b ≡ true → a ≡ true → b ≡ true
or_right true b e h = e
or_right false b e h = absurd (false≢true h)

or_cases : (a b : Bool) → a || b ≡ true → (a ≡ true) ⊎ (b ≡ true)
or_cases true b e = inl refl
or_cases false b e = inr e

folder_is : (node : Node) → is_folder node ≡ true → node ≡ AFolder
folder_is Nothing e = absurd (false≢true e)
folder_is (PlainFile n) e = absurd (false≢true e)
folder_is AFolder e = refl
folder_is Another e = absurd (false≢true e)

current_stays : (s : System) (path : List ℕ) → same_octets path (codes ".") ≡ true → StaysFolder s path
current_stays s path e = let F : List ℕ → Type 0 = StaysFolder s in subst F (sym (same_octets-true path (codes ".") e)) Current

keeps : (above : ℕ) (s : System) (path : List ℕ) → keeps_folder above s path ≡ true → StaysFolder s path
keeps zero s path e = current_stays s path e
keeps (suc above) s path e = elim (or_cases (same_octets path (codes ".")) _ e) [
  | inl current ↦ current_stays s path current
  | inr kept ↦
      let p = and_parts (is_folder (s.node path)) (has_none (s.earlier path) && keeps_folder above s (folder_at path)) kept in
      let q = and_parts (has_none (s.earlier path)) (keeps_folder above s (folder_at path)) p.1 in
      Below path (λ node may. elim may [
        | inl now ↦ now ∙ folder_is (s.node path) p.0
        | inr earlier ↦ absurd (nothing_earlier (s.earlier path) node q.0 earlier)
      ]) (keeps above s (folder_at path) q.1)
]

follows_at : (s : System) (path : List ℕ) → IsSystem s → HasOwnFiles s → IsPath path → FollowsPath (started_at s path) s path
follows_at s path system owns is =
    let plain = is_plain (s.node path) in
    let nodes = s.node path ∷ s.earlier path in
    let kept = not plain || keeps_folder 4 s (folder_at path) in
    let firm : (started_at s path).is_name_loose ≡ false → (has_none (s.earlier path) ≡ true) × (kept ≡ true) =
    λ e. and_parts (has_none (s.earlier path)) kept (not_false (has_none (s.earlier path) && kept) (sym (loose_of s plain (is_loose_path s path) (first_file nodes)) ∙ e)) in
    record {
      reads = reads_of s (s.node path) (s.earlier path) (is_loose_path s path) system;
      holds = λ number may. holds_of s path owns is number may;
      firm = λ e node may. elim may [
        | inl now ↦ now
        | inr earlier ↦ absurd (nothing_earlier (s.earlier path) node (firm e).0 earlier)
      ];
      stays = λ e there.
          let is_file : plain ≡ true = there_of s plain (is_loose_path s path) (first_file nodes) there in
          keeps 4 s (folder_at path) (or_right plain (keeps_folder 4 s (folder_at path)) (firm e).1 is_file);
    }

pub start_follows : (s : System) → IsSystem s → HasOwnFiles s → FollowsSystem (started_disk s) s
start_follows s system owns name is =
    let F : FileState → Type 0 = λ f. FollowsPath f s (path_text name) in
    subst F (sym (cond-true (is_store_file name) (started_at s (path_text name)) no_file (file_from name is))) (follows_at s (path_text name) system owns (spelled name is))

left_started : (s : System) (there loose : Bool) (o : Option ℕ) → IsSystem s → MayLeave (started s there loose o) (reading (started s there loose o))
left_started s there loose None is = inl refl
left_started s false loose (Some n) is = inl refl
left_started s true loose (Some n) is =
    let c : IsContent (s.content n) = is.contents n in
    record { named = inl refl; least = c.least; greatest = c.greatest; same = λ i below firm. refl; are_octets = c.are_octets }

if_both : {A : Type 0} (P : A → Type 0) (b : Bool) (x y : A) → P x → P y → P (if b then x else y)
if_both P true x y p q = p
if_both P false x y p q = q

pub start_is_disk : (s : System) → IsSystem s → IsStoreDisk (started_disk s)
start_is_disk s system = record {
  reads = λ name.
      let path = path_text name in
      if_both (λ f. MayLeave f (reading f)) (is_store_file name) (started_at s path) no_file
      (left_started s (is_plain (s.node path)) (is_loose_path s path) (first_file (s.node path ∷ s.earlier path)) system) (inl refl);
  none = λ name other. elim (cases_Bool (is_store_file name)) [
    | inl is ↦ absurd (other (file_true name is))
    | inr not_one ↦ ap (λ (f : FileState). f.is_there) (cond-false (is_store_file name) (started_at s (path_text name)) no_file not_one)
  ];
}
