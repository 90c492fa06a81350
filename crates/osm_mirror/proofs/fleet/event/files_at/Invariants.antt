use Rattle.std.proofs.Common.{◌≡◌, map, take, length, []}
use Rattle.std.specs.List.{slice_get}
use Rattle.std.specs.Option.{unwrap_or, option_map}
use Rattle.osm_mirror.proofs.fleet.event.files_at.Given as goal

abbrev pub invariant-indices : goal.invariant-indices
invariant-indices l = record {
  count : length l.found.items ≡ l.index-index;
  bytes : map (λ b. b.now) l.found.items
      ≡ map (λ i. unwrap_or (option_map (λ file. file.items) (slice_get l.files i)) []) (take l.index-index l.indices);
}
