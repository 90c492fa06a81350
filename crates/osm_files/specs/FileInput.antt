-- What an input of a run over files can give: that of an extent of a file, or that of a stream.
use Rattle.std.proofs.Common.{refl}
use Rattle.std.specs.Prelude.{◌≡◌, ℕ, List, Option}
use Rattle.osm_files.specs.Extent.{ExtentCanGive, extent_rest, framed}
use Rattle.osm_files.specs.ExtentGives.{extent_given}
use Rattle.osm_files.specs.Input.{InputRest, GivesOne}
use Rattle.osm_files.specs.ReadAt.{known_bytes}
use Rattle.osm_files.specs.declared.extent.FramedExtent.{FramedExtent}
use Rattle.osm_files.specs.declared.file_input.FileInput.{FileInput}
use Rattle.osm_files.specs.declared.file_input.FileInput.TheVariants.{Extent, Stream}

module _ {F : Type 0} (fails : F → Type 0) (bytes : F → Option (List ℕ)) where
  -- what an extent of a file with bytes before and after it can give
  abbrev pub FramedCanGive : FramedExtent F → InputRest → Type 0
  FramedCanGive s c = GivesOne (ExtentCanGive (fails s.extent.file.now) (bytes s.extent.file.now) s.extent.next
      s.extent.end)
      (λ given. c ≡ framed s.before s.after given)

  module _ {R : Type 0} (can : R → InputRest → Type 0) where
    -- what an input of a run over files can give
    abbrev pub FileInputCanGive : FileInput F R → InputRest → Type 0
    FileInputCanGive (Extent s) c = FramedCanGive s c
    FileInputCanGive (Stream r) c = can r c

    module _ (one : R → InputRest) where
      -- something that the input can give
      abbrev pub one_of_input : FileInput F R → InputRest
      one_of_input (Extent s) =
          framed s.before s.after (extent_rest s.extent.next s.extent.end (known_bytes (bytes s.extent.file.now)))
      one_of_input (Stream r) = one r

      pub input_gives_one : ((r : R) → can r (one r)) → (s : FileInput F R) → FileInputCanGive s (one_of_input s)
      input_gives_one possible (Extent s) = (
        extent_rest s.extent.next s.extent.end (known_bytes (bytes s.extent.file.now)),
        extent_given (fails s.extent.file.now) (bytes s.extent.file.now) s.extent.next s.extent.end,
        refl,
      )
      input_gives_one possible (Stream r) = possible r
