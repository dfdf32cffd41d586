-- Worked examples of the look-ups, each computed from the definitions.
use Rattle.std.specs.Prelude.{ℕ, ◌≡◌, refl, List, [], ◌∷◌, ◌++◌, replicate, Some, None, Ok, Err}
use Rattle.text.specs.Text.{bytes}
use Rattle.refusal.specs.Table.{refused, not_whole}
use Rattle.little.specs.Little.{little, number}
use Rattle.rowfile.specs.Rows.{front, joined}
use Rattle.record.specs.Bytes.{encoded, decoded}
use Rattle.record.specs.Made.{bare, coded, named, valued, library}
use Rattle.record.specs.Kinds.{SITE, MACRO, PIN, PORT, LAYER, LAYER_OPTION, WIDTH, EXCEPTPGNET, SPACING, DESIGNRULEWIDTH}
use Rattle.file.specs.File.{encoded_all, record_at}
use Rattle.lookup.specs.First.{first, greatest}
use Rattle.lookup.specs.Force.{asked, latest, in_force}
use Rattle.lookup.specs.Name.{part, name_at}
use Rattle.lookup.specs.Chain.{within, owners_of, owners}

-- widths of the layer at 40, the second and third at one place, and one of another layer
abbrev widths : List ℕ
widths = encoded_all (valued WIDTH 50 40 1 ∷ valued WIDTH 60 40 2 ∷ valued WIDTH 60 40 3 ∷ valued WIDTH 90 80 4 ∷ [])

-- options of the layer at 40
abbrev options : List ℕ
options = encoded_all (
    coded LAYER_OPTION 70 40 DESIGNRULEWIDTH ∷ coded LAYER_OPTION 60 40 SPACING ∷ coded LAYER_OPTION 50 40 EXCEPTPGNET ∷ coded LAYER_OPTION 80 40 9 ∷ []
    )

pub record InForceSamples : Type 0 where
  pub first_of_two : in_force widths 40 WIDTH 0 ≡ Ok (Some 1)
  pub code_unused : in_force widths 40 WIDTH 7 ≡ Ok (Some 1)
  pub of_its_owner : in_force widths 80 WIDTH 0 ≡ Ok (Some 3)
  pub no_owner : in_force widths 41 WIDTH 0 ≡ Ok None
  pub spacing : in_force options 40 LAYER_OPTION SPACING ≡ Ok (Some 0)
  pub design_rule_width : in_force options 40 LAYER_OPTION DESIGNRULEWIDTH ≡ Ok (Some 0)
  pub except_pg_net : in_force options 40 LAYER_OPTION EXCEPTPGNET ≡ Ok (Some 2)
  pub no_option : in_force options 40 LAYER_OPTION 0 ≡ Ok None
  pub no_code : in_force options 40 LAYER_OPTION 9 ≡ Ok None
  pub all_count : in_force (encoded_all (named SITE 0 library 5 1 ∷ [])) library SITE 0 ≡ Ok None
  pub unknown_kind : in_force (encoded_all (bare 200 0 library ∷ [])) library 200 0 ≡ Ok (Some 0)
  pub empty_file : in_force [] library WIDTH 0 ≡ Ok None
  pub cut_file : in_force (replicate 35 0) library WIDTH 0 ≡ Err (refused not_whole 35 0)

pub in_force_lem : InForceSamples
unfolding in_force latest first greatest asked front joined encoded decoded little number
in_force_lem = record {
  first_of_two = refl;
  code_unused = refl;
  of_its_owner = refl;
  no_owner = refl;
  spacing = refl;
  design_rule_width = refl;
  except_pg_net = refl;
  no_option = refl;
  no_code = refl;
  all_count = refl;
  unknown_kind = refl;
  empty_file = refl;
  cut_file = refl;
}

-- names in a text of six bytes
abbrev sites : List ℕ
sites = encoded_all (named SITE 0 library 5 1 ∷ named SITE 0 library 5 2 ∷ named SITE 0 library 4294967295 4294967295 ∷ [])

pub record NameSamples : Type 0 where
  pub inside : name_at (bytes "SITE s") sites 0 ≡ bytes "s"
  pub over_the_end : name_at (bytes "SITE s") sites 1 ≡ []
  pub far_outside : name_at (bytes "SITE s") sites 2 ≡ []
  pub past_the_file : name_at (bytes "SITE s") sites 3 ≡ []
  pub cut_file : name_at (bytes "SITE s") (sites ++ 0 ∷ []) 0 ≡ bytes "s"

pub names : NameSamples
unfolding record_at part joined encoded decoded little number
names = record { inside = refl; over_the_end = refl; far_outside = refl; past_the_file = refl; cut_file = refl }

-- a layer in a port in a pin in a macro
abbrev nested : List ℕ
nested = encoded_all (bare LAYER 30 20 ∷ named MACRO 0 library 0 0 ∷ named PIN 10 0 0 0 ∷ bare PORT 20 10 ∷ [])

-- two that own each other, one that owns itself, one whose owner is not there, and one whose owner is there twice
abbrev odd : List ℕ
odd = encoded_all (bare PORT 5 9 ∷ bare PORT 9 5 ∷ bare PORT 7 7 ∷ bare PORT 8 6 ∷ bare PORT 4 library ∷ bare PORT 11 9 ∷ bare PORT 9 3 ∷ [])

pub record OwnersSamples : Type 0 where
  pub to_the_library : owners nested 0 ≡ Ok 3
  pub of_the_library : owners nested 1 ≡ Ok 0
  pub past_the_file : owners nested 4 ≡ Ok 0
  pub not_below : owners odd 0 ≡ Ok 0
  pub cycle : owners odd 1 ≡ Ok 1
  pub its_own_owner : owners odd 2 ≡ Ok 0
  pub owner_lacking : owners odd 3 ≡ Ok 0
  pub first_of_two : owners odd 5 ≡ Ok 2
  pub cut_file : owners (replicate 37 0) 0 ≡ Err (refused not_whole 37 0)

pub chains : OwnersSamples
unfolding owners owners_of within first front record_at joined encoded decoded little number
chains = record {
  to_the_library = refl;
  of_the_library = refl;
  past_the_file = refl;
  not_below = refl;
  cycle = refl;
  its_own_owner = refl;
  owner_lacking = refl;
  first_of_two = refl;
  cut_file = refl;
}
