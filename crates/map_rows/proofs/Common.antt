-- The names that most proofs of this crate cite, passed on from one place. Declares nothing.
pub use Rattle.std.proofs.Common.{All, Bool, Err, List, None, Ok, Option, Result, Some, [], ap, arith, cond, drop, false, filter, find, fold, get_or, inl, inr, length, map, not, refl, rules, slice_get, subst, suc, sym, take, true, vec_capacity, vec_len, zero, ℕ, ◌&&◌, ◌++◌, ◌+◌, ◌-◌, ◌<◌, ◌==◌, ◌||◌, ◌∙◌, ◌∷◌, ◌≡◌, ◌≢◌, ◌≤◌}
pub use Rattle.std.proofs.lemmas.Bool.{cases_eq, cases_lt}
pub use Rattle.std.proofs.lemmas.Bool.Decides.{nat_tests}
pub use Rattle.std.proofs.lemmas.Cmp.{ranked}
pub use Rattle.std.proofs.lemmas.List.Elements.{All-cons, All-head, All-nil, All-tail, All-weaker}
pub use Rattle.std.proofs.lemmas.List.Folds.{find_at}
pub use Rattle.std.proofs.lemmas.List.Kept.{AllPairs-cons, AllPairs-filter, AllPairs-from_increasing}
pub use Rattle.std.proofs.lemmas.List.Sorted.{answers_always}
pub use Rattle.std.proofs.lemmas.Option.{slice_get_past}
pub use Rattle.std.specs.Borrow.{Bor}
pub use Rattle.std.specs.List.{list_any}
pub use Rattle.std.specs.List.Sorted.{IsBinarySearchResult, IsNonDecreasingBy, IsSearchInRange}
pub use Rattle.std.specs.Option.{option_copied, option_map}
pub use Rattle.std.specs.Ordering.{nat_cmp}
pub use Rattle.std.specs.Prelude.{AllPairs, IsTrue, nat_le, nat_lt, ◌↔◌, ◌⊎◌}
pub use Rattle.std.specs.Str.{bytes_eq}
pub use Rattle.mdbox_base.specs.Words.{IsOctets}
pub use Rattle.mdbox_base.specs.declared.entries.InstRow.{InstRow}
pub use Rattle.mdbox_base.specs.declared.entries.MapPlace.{MapPlace}
pub use Rattle.mdbox_base.specs.declared.ids.MapUid.{MapUid}
pub use Rattle.model_meaning.specs.MapFits.{AgreesOn, IsApart}
pub use Rattle.model_meaning.specs.MapMeaning.{MapRecord, has_map_uid, moved_record, place_given, record_changed}
pub use Rattle.model_octets.proofs.PairLemmas.{found_among, found_holds, pairs_head, pairs_nil, pairs_tail}
pub use Rattle.model_octets.proofs.SearchLemmas.{found_none, text_is, text_yes}
pub use Rattle.map_rows.specs.Keys.{guid_key, place_key, place_number}
pub use Rattle.map_rows.specs.Lookups.{lowered_by, meant_record}
pub use Rattle.map_rows.specs.Named.{AreNamesOf, AreNamings, AreNumbered, NamesValue, all_namings, instances_of, namings_of}
pub use Rattle.map_rows.specs.Orders.{AreKeysOf, NumbersRise, last_of, times, with_key}
pub use Rattle.map_rows.specs.TableKept.{AreIndexed, AreTableRows, IsTableRow, LieApart}
pub use Rattle.map_rows.specs.TableValue.{TableValue}
pub use Rattle.map_rows.specs.Value.{OrderValue}
pub use Rattle.map_rows.specs.declared.names.NamedInstance.{NamedInstance}
pub use Rattle.map_rows.specs.declared.order.OrderKey.{OrderKey}
pub use Rattle.map_rows.specs.declared.rows.Record.{Record}
