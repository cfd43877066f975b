-- The names that most proofs of this crate cite, passed on from one place. Declares nothing.
pub use Rattle.std.proofs.Common.{Bool, List, None, Option, Some, [], ap, arith, cond, drop, false, filter, find, fold, get_or, inl, inr, length, map, max, refl, rules, subst, suc, sym, true, zero, ℕ, ◌++◌, ◌+◌, ◌-◌, ◌<◌, ◌==◌, ◌^◌, ◌||◌, ◌∙◌, ◌∷◌, ◌≡◌, ◌≢◌, ◌≤◌}
pub use Rattle.std.proofs.lemmas.Bool.Decides.{nat_tests}
pub use Rattle.std.proofs.lemmas.List.Elements.{All-cons, All-head, All-nil, All-tail, All-weaker}
pub use Rattle.std.proofs.lemmas.List.Kept.{AllPairs-cons, AllPairs-from_increasing}
pub use Rattle.std.proofs.lemmas.List.Sorted.{answers_always}
pub use Rattle.std.specs.List.{list_any, position_or_len}
pub use Rattle.std.specs.Option.{option_map, option_map_or}
pub use Rattle.std.specs.Prelude.{All, AllPairs, nat_lt, ◌↔◌}
pub use Rattle.map_rows.specs.Lookups.{lowered_by}
pub use Rattle.map_rows.specs.TableValue.{TableValue}
pub use Rattle.map_rows.specs.declared.rows.MapRow.{MapRow}
pub use Rattle.mdbox_base.specs.Words.{IsNumber}
pub use Rattle.mdbox_base.specs.declared.entries.Highest.{Highest}
pub use Rattle.mdbox_base.specs.declared.entries.MapCount.{MapCount}
pub use Rattle.mdbox_base.specs.declared.entries.MapEntry.{MapEntry}
pub use Rattle.mdbox_base.specs.declared.entries.MapPlace.{MapPlace}
pub use Rattle.mdbox_base.specs.declared.ids.BoxNo.{BoxNo}
pub use Rattle.mdbox_base.specs.declared.ids.FileNo.{FileNo}
pub use Rattle.mdbox_base.specs.declared.ids.MapUid.{MapUid}
pub use Rattle.model_meaning.proofs.MapPlaceLemmas.{equal_is}
pub use Rattle.model_meaning.specs.MapFits.{AgreesOn, ArePlacedApart}
pub use Rattle.model_meaning.specs.MapMeaning.{MapBox, MapMeaning, MapRecord, record_changed}
pub use Rattle.model_octets.proofs.PairLemmas.{pairs_head, pairs_nil, pairs_tail}
pub use Rattle.map_index.specs.Kept.{IsMapInOrder}
pub use Rattle.map_index.specs.Shown.{box_of, shown_record}
pub use Rattle.map_index.specs.Value.{MapIndexValue}
pub use Rattle.map_index.specs.declared.rows.Mailbox.{Mailbox}
