use Rattle.std.proofs.Common.{◌≡◌, ◌<◌, length, get_or, Option, IfSome, subst}
use Rattle.std.specs.List.{HoldsAt}
use Rattle.folder_kept.proofs.OpenLemmas.{marked, marked_all, marked_others, marked_among, marked_keeps_but, unmarked_keeps}
use Rattle.folder_kept.proofs.files.OpenFiles.note.Goals as goal

pub returns-in-Some-clause-noted : goal.returns-in-Some-clause-noted
returns-in-Some-clause-noted g c e =
    let files = c.args.self.now.files.items in
    let F : Option _ → Type 0 = λ r. IfSome r (λ at. (at < length files) × HoldsAt (λ file. file.id ≡ c.args.id) files at) in
    let is = subst F c.in-Some.is c.place_of.ensures.some in
    let value = c.index_mut.ensures.value in
    let here : c.index_mut.result.now ≡ get_or files c.in-Some.at c.index_mut.result.now = cc in
    marked files c.in-Some.at c.args.id c.args.is_synced c.index_mut.result.now is.0 is.1 here

pub returns-in-Some-clause-marked : goal.returns-in-Some-clause-marked
returns-in-Some-clause-marked g c =
    let files = c.args.self.now.files.items in
    let F : Option _ → Type 0 = λ r. IfSome r (λ at. (at < length files) × HoldsAt (λ file. file.id ≡ c.args.id) files at) in
    let is = subst F c.in-Some.is c.place_of.ensures.some in
    let value = c.index_mut.ensures.value in
    let here : c.index_mut.result.now ≡ get_or files c.in-Some.at c.index_mut.result.now = cc in
    marked_all files c.in-Some.at c.args.id c.args.self.now.next_id c.args.is_synced c.index_mut.result.now is.0 is.1 here c.args.self.now.apart

pub returns-in-Some-clause-others : goal.returns-in-Some-clause-others
returns-in-Some-clause-others g c =
    let files = c.args.self.now.files.items in
    let F : Option _ → Type 0 = λ r. IfSome r (λ at. (at < length files) × HoldsAt (λ file. file.id ≡ c.args.id) files at) in
    let is = subst F c.in-Some.is c.place_of.ensures.some in
    let value = c.index_mut.ensures.value in
    let here : c.index_mut.result.now ≡ get_or files c.in-Some.at c.index_mut.result.now = cc in
    marked_others files c.in-Some.at c.args.id c.args.is_synced c.index_mut.result.now is.0 is.1 here

pub returns-in-Some-clause-same : goal.returns-in-Some-clause-same
returns-in-Some-clause-same g c =
    let files = c.args.self.now.files.items in
    let F : Option _ → Type 0 = λ r. IfSome r (λ at. (at < length files) × HoldsAt (λ file. file.id ≡ c.args.id) files at) in
    let is = subst F c.in-Some.is c.place_of.ensures.some in
    let value = c.index_mut.ensures.value in
    let here : c.index_mut.result.now ≡ get_or files c.in-Some.at c.index_mut.result.now = cc in
    marked_among files c.in-Some.at c.args.is_synced c.index_mut.result.now is.0 here

pub returns-in-Some-clause-keeps : goal.returns-in-Some-clause-keeps
returns-in-Some-clause-keeps g c =
    let files = c.args.self.now.files.items in
    let F : Option _ → Type 0 = λ r. IfSome r (λ at. (at < length files) × HoldsAt (λ file. file.id ≡ c.args.id) files at) in
    let is = subst F c.in-Some.is c.place_of.ensures.some in
    let value = c.index_mut.ensures.value in
    let here : c.index_mut.result.now ≡ get_or files c.in-Some.at c.index_mut.result.now = cc in
    marked_keeps_but files c.in-Some.at c.args.id c.args.is_synced c.index_mut.result.now is.0 is.1 here

pub returns-in-Some-clause-keeps_all : goal.returns-in-Some-clause-keeps_all
returns-in-Some-clause-keeps_all g c e =
    let files = c.args.self.now.files.items in
    let F : Option _ → Type 0 = λ r. IfSome r (λ at. (at < length files) × HoldsAt (λ file. file.id ≡ c.args.id) files at) in
    let is = subst F c.in-Some.is c.place_of.ensures.some in
    let value = c.index_mut.ensures.value in
    let here : c.index_mut.result.now ≡ get_or files c.in-Some.at c.index_mut.result.now = cc in
    unmarked_keeps files c.in-Some.at c.args.id c.args.is_synced c.index_mut.result.now is.0 is.1 here e
