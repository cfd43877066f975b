use Rattle.std.proofs.Common.{◌≡◌, sym, ◌∙◌, refl, codes, ℕ, ◌≢◌, ◌⊎◌, inl, inr}
use Rattle.std.proofs.lemmas.Bool.{false≢true}
use Rattle.disk_model.proofs.NameLemmas.{same_octets-true}
use Rattle.folder_model.specs.System.{Node, Nothing, PlainFile, AFolder}
use Rattle.folder_mem.specs.declared.seen.Thing.{Thing}
use Rattle.folder_mem.specs.declared.seen.Thing.TheVariants as thing
use Rattle.folder_mem.specs.Notes.{system_after}
use Rattle.folder_mem.specs.Seen.{node_of}
use Rattle.folder_model.specs.Paths.{folder_at}
use Rattle.folder_mem.proofs.ListLemmas.{same_octets-is}
use Rattle.folder_mem.proofs.list.stands_in.Goals as goal

-- a file or a folder stands there
something : (what : Thing) (node : Node) → node_of what ≡ node → ((number : ℕ) × (what ≡ thing.File number)) ⊎ (what ≡ thing.Folder) → node ≢ Nothing
something thing.Nothing node is (inl file) = absurd (let e : thing.Nothing ≡ thing.File file.0 = file.1 in cc)
something thing.Nothing node is (inr folder) = absurd (let e : thing.Nothing ≡ thing.Folder = folder in cc)
something (thing.File number) node is either = λ none. let e : PlainFile number ≡ Nothing = is ∙ none in cc
something thing.Folder node is either = λ none. let e : AFolder ≡ Nothing = is ∙ none in cc

pub returns-then-not-is_in-clause-no : goal.returns-then-not-is_in-clause-no
returns-then-not-is_in-clause-no c = λ stands.
    absurd (false≢true (sym c.if-not-is_in.true ∙ c.is_in.ensures ∙ same_octets-is (folder_at c.args.path.now) c.args.folder.now stands.in_folder))

pub returns-then-same_path-clause-no : goal.returns-then-same_path-clause-no
returns-then-same_path-clause-no c = λ stands.
    absurd (stands.below (same_octets-true c.args.path.now (codes ".") (sym c.same_path.ensures ∙ c.if-same_path.true)))

pub returns-in-File : goal.returns-in-File
returns-in-File c =
    let s = system_after c.args.changes.now in
    record {
      yes = λ _. record {
        in_folder = same_octets-true (folder_at c.args.path.now) c.args.folder.now (sym c.is_in.ensures ∙ c.if-not-is_in.false);
        below = λ is. false≢true (sym c.if-same_path.false ∙ c.same_path.ensures ∙ same_octets-is c.args.path.now (codes ".") is);
        there = something c.seen_path.result.thing (s.node c.args.path.now) c.seen_path.ensures.node c.in-File.is;
      };
      no = λ _. refl;
    }
