use Rattle.map_index.proofs.Common.{AllPairs, ◌==◌, ◌<◌, List, ap, sym, subst, ℕ, FileNo, MapIndexValue}
use Rattle.map_index.proofs.DerivedListLemmas.{any_in}
use Rattle.map_index.proofs.SearchLemmas.{pairs_unmap}
use Rattle.map_index.proofs.index.MapIndex.is_sealed.Goals as goal

pub has_file-requires : goal.has_file-requires
has_file-requires c =
    subst (λ (fs : List FileNo). AllPairs (λ a b. a.0 < b.0) fs) (sym c.deref.ensures.value)
    (pairs_unmap (λ (a b : ℕ). a < b) (λ (f : FileNo). f.0) c.self.inside.files.items c.self.invariant.0.files.rising)

pub returns : goal.returns
returns c =
    any_in (λ (n : ℕ). n == c.args.file.0) (λ (f : FileNo). f.0) _ _ _ _ c.has_file.ensures c.deref.ensures.value (ap (λ (v : MapIndexValue). v.meaning.sealed) c.self.view_is)
