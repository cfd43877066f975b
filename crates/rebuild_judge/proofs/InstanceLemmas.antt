-- What is read of the instances that references name, one after another.
use Rattle.std.proofs.Common.{refl, ◌≡◌, ℕ, List, [], ◌∷◌, ◌++◌, length, map, sym, ◌∙◌, ap, arith, append_assoc, append-nil, Option, Some, None}
use Rattle.std.proofs.lemmas.List.{take_all}
use Rattle.std.specs.Option.{option_map}
use Rattle.disk_model.specs.Disk.{DiskState, reading}
use Rattle.disk_model.specs.declared.name.FileName.TheVariants as file
use Rattle.mdbox_base.specs.declared.metadata.ExtRef.{ExtRef}
use Rattle.model_store.specs.Settled.{files_of}
use Rattle.model_taken.specs.NamedInstances.{InstanceFound, found_first, instances_there}
use Rattle.storage_files.specs.OnDisk.{piece_read}

-- what is told of each
abbrev pub AreOn : {X : Type 0} → (List ℕ → X) → List ExtRef → Option (List X) → DiskState → Type 0
AreOn f refs xs disk = xs ≡ option_map (map (λ i. f i.octets)) (instances_there (files_of disk) refs)

-- what is told of those before these
abbrev pub GoesOn : {X : Type 0} → (List ℕ → X) → List ExtRef → List ExtRef → List X → DiskState → Type 0
GoesOn {X} f refs rest xs disk = (after : Option (List X)) → AreOn f rest after disk → AreOn f refs (option_map (λ ys. xs ++ ys) after) disk

abbrev pub the_file : DiskState → ExtRef → Option (List ℕ)
the_file disk ref = reading (disk (file.Inst ref.hash.0 ref.id.0))

first_there : {X : Type 0} → (f : List ℕ → X) (ref : ExtRef) (octets : List ℕ) (here : Option (List ℕ)) (there : Option (List InstanceFound)) → here ≡ Some octets
    → option_map (λ (ys : List X). f octets ∷ ys) (option_map (map (λ i. f i.octets)) there) ≡ option_map (map (λ i. f i.octets)) (found_first ref here there)
first_there f ref octets here None e = rw e refl
first_there f ref octets here (Some found) e = rw e refl

pub on_begins : {X : Type 0} → (f : List ℕ → X) (refs : List ExtRef) (disk : DiskState) → GoesOn f refs refs [] disk
on_begins {X} f refs disk None e = e
on_begins {X} f refs disk (Some xs) e = e

push_joined : {X : Type 0} → (xs : List X) (x : X) (after : Option (List X)) → option_map (λ ys. (xs ++ x ∷ []) ++ ys) after ≡ option_map (λ ys. xs ++ ys) (option_map (λ ys. x ∷ ys) after)
push_joined {X} xs x None = refl
push_joined {X} xs x (Some ys) = ap (λ (zs : List X). Some zs) (append_assoc xs (x ∷ []) ys)

pub on_more : {X : Type 0} → (f : List ℕ → X) (refs rest others : List ExtRef) (ref : ExtRef) (xs : List X) (octets : List ℕ) (x : X) (disk : DiskState) → GoesOn f refs rest xs disk → rest ≡ ref ∷ others → the_file disk ref ≡ Some octets → f octets ≡ x
    → GoesOn f refs others (xs ++ x ∷ []) disk
on_more {X} f refs rest others ref xs octets x disk was parts here is after e =
    let first : AreOn f (ref ∷ others) (option_map (λ (ys : List X). x ∷ ys) after) disk = ap (λ (y : X). option_map (λ (ys : List X). y ∷ ys) after) (sym is) ∙ (ap (option_map (λ (ys : List X). f octets ∷ ys)) e ∙ first_there f ref octets (the_file disk ref) (instances_there (files_of disk) others) here) in
    push_joined xs x after ∙ was (option_map (λ (ys : List X). x ∷ ys) after) (first ∙ ap (λ (rs : List ExtRef). option_map (map (λ (i : InstanceFound). f i.octets)) (instances_there (files_of disk) rs)) (sym parts))

none_there : {X : Type 0} → (f : List ℕ → X) (ref : ExtRef) (here : Option (List ℕ)) (there : Option (List InstanceFound)) → here ≡ None → None ≡ option_map (map (λ i. f i.octets)) (found_first ref here there)
none_there f ref here None e = rw e refl
none_there f ref here (Some found) e = rw e refl

pub on_none : {X : Type 0} → (f : List ℕ → X) (refs rest others : List ExtRef) (ref : ExtRef) (xs : List X) (disk : DiskState) → GoesOn f refs rest xs disk → rest ≡ ref ∷ others → the_file disk ref ≡ None → AreOn f refs None disk
on_none {X} f refs rest others ref xs disk was parts here =
    was None (none_there f ref (the_file disk ref) (instances_there (files_of disk) others) here ∙ ap (λ (rs : List ExtRef). option_map (map (λ (i : InstanceFound). f i.octets)) (instances_there (files_of disk) rs)) (sym parts))

pub on_ends : {X : Type 0} → (f : List ℕ → X) (refs rest : List ExtRef) (xs : List X) (disk : DiskState) → GoesOn f refs rest xs disk → rest ≡ [] → AreOn f refs (Some xs) disk
on_ends {X} f refs rest xs disk was none = ap (λ (ys : List X). Some ys) (sym (append-nil xs)) ∙ was (Some []) (ap (λ (rs : List ExtRef). option_map (map (λ (i : InstanceFound). f i.octets)) (instances_there (files_of disk) rs)) (sym none))

-- ---- as a disk tells them

of_none : {X Y : Type 0} → (f : X → Y) (o : Option X) → option_map f o ≡ None → o ≡ None
of_none f None e = refl
of_none f (Some x) e = absurd (cc e)

size_of : (here : Option (List ℕ)) (n : ℕ) → option_map length here ≡ Some n → (octets : List ℕ) × (here ≡ Some octets) × (length octets ≡ n)
size_of None n e = absurd (cc e)
size_of (Some octets) n e = (octets, refl, cc e)

pub sizes_more : (refs rest others : List ExtRef) (ref : ExtRef) (xs : List ℕ) (n : ℕ) (disk : DiskState) → GoesOn length refs rest xs disk → rest ≡ ref ∷ others → option_map length (the_file disk ref) ≡ Some n → GoesOn length refs others (xs ++ n ∷ []) disk
sizes_more refs rest others ref xs n disk was parts size = let o = size_of (the_file disk ref) n size in on_more length refs rest others ref xs o.0 n disk was parts o.1 o.2

pub none_more : {X : Type 0} → (f : List ℕ → X) (refs rest others : List ExtRef) (ref : ExtRef) (xs : List X) (disk : DiskState) → GoesOn f refs rest xs disk → rest ≡ ref ∷ others → option_map length (the_file disk ref) ≡ None → AreOn f refs None disk
none_more f refs rest others ref xs disk was parts size = on_none f refs rest others ref xs disk was parts (of_none length (the_file disk ref) size)

abbrev pub itself : List ℕ → List ℕ
itself octets = octets

pub octets_more : (refs rest others : List ExtRef) (ref : ExtRef) (xs : List (List ℕ)) (n : ℕ) (part : List ℕ) (disk : DiskState) → GoesOn itself refs rest xs disk → rest ≡ ref ∷ others → option_map length (the_file disk ref) ≡ Some n → part ≡ piece_read 0 n (the_file disk ref)
    → GoesOn itself refs others (xs ++ part ∷ []) disk
octets_more refs rest others ref xs n part disk was parts size read =
    let o = size_of (the_file disk ref) n size in
    let same : o.0 ≡ part = sym (read ∙ (ap (piece_read 0 n) o.1 ∙ take_all n o.0 (let e = o.2 in omega (arith, e)))) in
    on_more itself refs rest others ref xs o.0 part disk was parts o.1 same
