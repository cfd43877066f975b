-- A folder in memory is a system as calls leave it.
use Rattle.std.proofs.Common.{◌≡◌, ℕ, ◌+◌, ◌-◌, ◌==◌, ◌<◌, ◌≤◌, min, Bool, true, false, if◌then◌else◌, List, [], ◌∷◌, ◌++◌, length, take, drop, All, refl, ◌∙◌, ap, length-append, length-drop, arith, codes, string_bytes}
use Rattle.std.proofs.lemmas.List.{length-take}
use Rattle.std.proofs.lemmas.List.Elements.{All-cons, All-take}
use Rattle.disk_model.specs.Disk.{FileState, still, written, cut_to, synced, overlaid}
use Rattle.disk_model.specs.Name.{same_octets}
use Rattle.folder_model.specs.System.{Node, Nothing, PlainFile, AFolder, Another, System, IsSystem, IsContent, IsNumberedNode, with_node, with_content, with_new_file}
use Rattle.folder_model.proofs.PartLemmas.{overlaid-octets}
use Rattle.folder_mem.specs.declared.note.Change.{Change}
use Rattle.folder_mem.specs.declared.note.Change.TheVariants.{Locked, Ended, MadeFile, MadeFolder, Removed, Written, Cut, Synced, NamesSynced, SyncFailed}
use Rattle.folder_mem.specs.Notes.{changes_to, empty_system, replayed_from, system_after}

if_both : {A : Type 0} (P : A → Type 0) (b : Bool) (x y : A) → P x → P y → P (if b then x else y)
if_both P true x y p q = p
if_both P false x y p q = q

numbered-more : (count : ℕ) (node : Node) → IsNumberedNode count node → IsNumberedNode (count + 1) node
numbered-more count Nothing is = tt
numbered-more count (PlainFile number) is = omega (arith, is)
numbered-more count AFolder is = tt
numbered-more count Another is = tt

numbered_all-more : (count : ℕ) (nodes : List Node) → All (IsNumberedNode count) nodes → All (IsNumberedNode (count + 1)) nodes
numbered_all-more count nodes all = λ k d below. numbered-more count _ (all k d below)

still_content : IsContent (still [])
still_content = record { is_there = refl; is_named = refl; least = omega arith; greatest = omega arith; are_octets = λ k d below. absurd (omega (arith, below)) }

overlaid_long : (old : List ℕ) (at : ℕ) (text : List ℕ) → length (overlaid old at text) ≡ min at (length old) + length text + (length old - (at + length text))
overlaid_long old at text =
    length-append (take at old ++ text) (drop (at + length text) old)
    ∙ ap (λ n. n + length (drop (at + length text) old)) (length-append (take at old) text ∙ ap (λ n. n + length text) (length-take at old))
    ∙ ap (λ n. min at (length old) + length text + n) (length-drop (at + length text) old)

written_content : (at : ℕ) (text : List ℕ) (f : FileState) → All (λ octet. octet < 256) text → IsContent f → IsContent (written at text f)
written_content at text f fit is =
    let long = overlaid_long f.octets at text in
    let l : f.least ≤ length f.octets = is.least in
    let g : length f.octets ≤ f.greatest = is.greatest in
    record {
      is_there = is.is_there;
      is_named = is.is_named;
      least = omega (arith, long, l);
      greatest = omega (arith, long, g);
      are_octets = overlaid-octets f.octets at text is.are_octets fit;
    }

cut_content : (end : ℕ) (f : FileState) → IsContent f → IsContent (cut_to end f)
cut_content end f is =
    let long = length-take end f.octets in
    let l : f.least ≤ length f.octets = is.least in
    let g : length f.octets ≤ f.greatest = is.greatest in
    record {
      is_there = is.is_there;
      is_named = is.is_named;
      least = omega (arith, long, l);
      greatest = omega (arith, long, g);
      are_octets = All-take (λ octet. octet < 256) end f.octets is.are_octets;
    }

synced_content : (f : FileState) → IsContent f → IsContent (synced f)
synced_content f is = record { is_there = is.is_there; is_named = is.is_named; least = omega arith; greatest = omega arith; are_octets = is.are_octets }

with_node_system : (path : List ℕ) (node : Node) (s : System) → IsNumberedNode s.count node → IsSystem s → IsSystem (with_node path node s)
with_node_system path node s numbered is = record {
  nodes = λ p. if_both (IsNumberedNode s.count) (same_octets p path) node (s.node p) numbered (is.nodes p);
  earlier = λ p. if_both (All (IsNumberedNode s.count)) (same_octets p path) (s.node p ∷ s.earlier p) (s.earlier p)
      (All-cons (IsNumberedNode s.count) (s.node p) (s.earlier p) (is.nodes p) (is.earlier p)) (is.earlier p);
  contents = is.contents;
}

with_content_system : (number : ℕ) (step : FileState → FileState) (s : System) → ((f : FileState) → IsContent f → IsContent (step f)) → IsSystem s → IsSystem (with_content number step s)
with_content_system number step s keeps is = record {
  nodes = is.nodes;
  earlier = is.earlier;
  contents = λ n. if_both IsContent (n == number) (step (s.content n)) (s.content n) (keeps (s.content n) (is.contents n)) (is.contents n);
}

new_file_system : (path : List ℕ) (s : System) → IsSystem s → IsSystem (with_new_file path s)
new_file_system path s is = record {
  nodes = λ p. if_both (IsNumberedNode (s.count + 1)) (same_octets p path) (PlainFile s.count) (s.node p) (omega arith) (numbered-more s.count (s.node p) (is.nodes p));
  earlier = λ p. if_both (All (IsNumberedNode (s.count + 1))) (same_octets p path) (s.node p ∷ s.earlier p) (s.earlier p)
      (All-cons (IsNumberedNode (s.count + 1)) (s.node p) (s.earlier p) (numbered-more s.count (s.node p) (is.nodes p)) (numbered_all-more s.count (s.earlier p) (is.earlier p))) (numbered_all-more s.count (s.earlier p) (is.earlier p));
  contents = λ n. if_both IsContent (n == s.count) (still []) (s.content n) still_content (is.contents n);
}

changed_system : (change : Change) (s : System) → IsSystem s → IsSystem (changes_to change s)
changed_system Locked s is = record { nodes = is.nodes; earlier = is.earlier; contents = is.contents }
changed_system Ended s is = record { nodes = is.nodes; earlier = is.earlier; contents = is.contents }
changed_system (MadeFile path) s is = new_file_system (string_bytes path) s is
changed_system (MadeFolder path) s is = with_node_system (string_bytes path) AFolder s tt is
changed_system (Removed path) s is = with_node_system (string_bytes path) Nothing s tt is
changed_system (Written number at text) s is = with_content_system number (written at text.octets.items) s (λ f. written_content at text.octets.items f text.fit) is
changed_system (Cut number end) s is = with_content_system number (cut_to end) s (cut_content end) is
changed_system (Synced number) s is =
    with_content_system number (λ f. if s.is_sound then synced f else f) s (λ f c. if_both IsContent s.is_sound (synced f) f (synced_content f c) c) is
changed_system (NamesSynced folder) s is = record {
  nodes = is.nodes;
  earlier = λ p. if_both (All (IsNumberedNode s.count)) s.is_sound _ (s.earlier p) (if_both (All (IsNumberedNode s.count)) _ [] (s.earlier p) (λ k d below. absurd (omega (arith, below))) (is.earlier p)) (is.earlier p);
  contents = is.contents;
}
changed_system SyncFailed s is = record { nodes = is.nodes; earlier = is.earlier; contents = is.contents }

empty_is_system : IsSystem empty_system
empty_is_system = record {
  nodes = λ p. if_both (IsNumberedNode 0) (same_octets p (codes ".")) AFolder Nothing tt tt;
  earlier = λ p k d below. absurd (omega (arith, below));
  contents = λ n. still_content;
}

replayed_system : (changes : List Change) (s : System) → IsSystem s → IsSystem (replayed_from changes s)
replayed_system [] s is = is
replayed_system (change ∷ changes) s is = replayed_system changes (changes_to change s) (changed_system change s is)

pub system_is : (changes : List Change) → IsSystem (system_after changes)
unfolding system_after
system_is changes = replayed_system changes empty_system empty_is_system
