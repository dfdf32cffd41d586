-- The fields and the constructors of a record: each answer is equated with a definition.
use mathlib.Core.Path.{refl}
use Rattle.settled.specs.Settled.{Settles}
use Rattle.settled.proofs.Laws.{same}
use Rattle.record.specs.contracts.Record.kind as of-record-kind
use Rattle.record.proofs.Record.kind.Reads as of-record-kind-says
use Rattle.record.specs.contracts.Record.code as of-record-code
use Rattle.record.proofs.Record.code.Reads as of-record-code-says
use Rattle.record.specs.contracts.Record.spare as of-record-spare
use Rattle.record.proofs.Record.spare.Reads as of-record-spare-says
use Rattle.record.specs.contracts.Record.at as of-record-at
use Rattle.record.proofs.Record.at.Reads as of-record-at-says
use Rattle.record.specs.contracts.Record.owner as of-record-owner
use Rattle.record.proofs.Record.owner.Reads as of-record-owner-says
use Rattle.record.specs.contracts.Record.name as of-record-name
use Rattle.record.proofs.Record.name.Reads as of-record-name-says
use Rattle.record.specs.contracts.Record.len as of-record-len
use Rattle.record.proofs.Record.len.Reads as of-record-len-says
use Rattle.record.specs.contracts.Record.x as of-record-x
use Rattle.record.proofs.Record.x.Reads as of-record-x-says
use Rattle.record.specs.contracts.Record.y as of-record-y
use Rattle.record.proofs.Record.y.Reads as of-record-y-says
use Rattle.record.specs.contracts.Record.of_bytes as of-record-of-bytes
use Rattle.record.proofs.Record.of_bytes.Reads as of-record-of-bytes-says
use Rattle.record.specs.contracts.Record.version as of-make-version
use Rattle.record.proofs.Record.version.Reads as of-make-version-says
use Rattle.record.specs.contracts.Record.bus_bit_chars as of-make-bus-bit-chars
use Rattle.record.proofs.Record.bus_bit_chars.Reads as of-make-bus-bit-chars-says
use Rattle.record.specs.contracts.Record.divider_char as of-make-divider-char
use Rattle.record.proofs.Record.divider_char.Reads as of-make-divider-char-says
use Rattle.record.specs.contracts.Record.names_case_sensitive as of-make-names-case-sensitive
use Rattle.record.proofs.Record.names_case_sensitive.Reads as of-make-names-case-sensitive-says
use Rattle.record.specs.contracts.Record.no_wire_extension_at_pin as of-make-no-wire-extension-at-pin
use Rattle.record.proofs.Record.no_wire_extension_at_pin.Reads as of-make-no-wire-extension-at-pin-says
use Rattle.record.specs.contracts.Record.units as of-make-units
use Rattle.record.proofs.Record.units.Reads as of-make-units-says
use Rattle.record.specs.contracts.Record.database_microns as of-make-database-microns
use Rattle.record.proofs.Record.database_microns.Reads as of-make-database-microns-says
use Rattle.record.specs.contracts.Record.site as of-make-site
use Rattle.record.proofs.Record.site.Reads as of-make-site-says
use Rattle.record.specs.contracts.Record.site_class as of-make-site-class
use Rattle.record.proofs.Record.site_class.Reads as of-make-site-class-says
use Rattle.record.specs.contracts.Record.symmetry as of-make-symmetry
use Rattle.record.proofs.Record.symmetry.Reads as of-make-symmetry-says
use Rattle.record.specs.contracts.Record.symmetry_word as of-make-symmetry-word
use Rattle.record.proofs.Record.symmetry_word.Reads as of-make-symmetry-word-says
use Rattle.record.specs.contracts.Record.size as of-make-size
use Rattle.record.proofs.Record.size.Reads as of-make-size-says
use Rattle.record.specs.contracts.Record.macro_ as of-make-macro
use Rattle.record.proofs.Record.macro_.Reads as of-make-macro-says
use Rattle.record.specs.contracts.Record.macro_class as of-make-macro-class
use Rattle.record.proofs.Record.macro_class.Reads as of-make-macro-class-says
use Rattle.record.specs.contracts.Record.macro_site as of-make-macro-site
use Rattle.record.proofs.Record.macro_site.Reads as of-make-macro-site-says
use Rattle.record.specs.contracts.Record.foreign as of-make-foreign
use Rattle.record.proofs.Record.foreign.Reads as of-make-foreign-says
use Rattle.record.specs.contracts.Record.foreign_at as of-make-foreign-at
use Rattle.record.proofs.Record.foreign_at.Reads as of-make-foreign-at-says
use Rattle.record.specs.contracts.Record.origin as of-make-origin
use Rattle.record.proofs.Record.origin.Reads as of-make-origin-says
use Rattle.record.specs.contracts.Record.pin as of-make-pin
use Rattle.record.proofs.Record.pin.Reads as of-make-pin-says
use Rattle.record.specs.contracts.Record.direction as of-make-direction
use Rattle.record.proofs.Record.direction.Reads as of-make-direction-says
use Rattle.record.specs.contracts.Record.use_ as of-make-use
use Rattle.record.proofs.Record.use_.Reads as of-make-use-says
use Rattle.record.specs.contracts.Record.shape as of-make-shape
use Rattle.record.proofs.Record.shape.Reads as of-make-shape-says
use Rattle.record.specs.contracts.Record.antenna_model as of-make-antenna-model
use Rattle.record.proofs.Record.antenna_model.Reads as of-make-antenna-model-says
use Rattle.record.specs.contracts.Record.antenna as of-make-antenna
use Rattle.record.proofs.Record.antenna.Reads as of-make-antenna-says
use Rattle.record.specs.contracts.Record.port as of-make-port
use Rattle.record.proofs.Record.port.Reads as of-make-port-says
use Rattle.record.specs.contracts.Record.port_class as of-make-port-class
use Rattle.record.proofs.Record.port_class.Reads as of-make-port-class-says
use Rattle.record.specs.contracts.Record.obs as of-make-obs
use Rattle.record.proofs.Record.obs.Reads as of-make-obs-says
use Rattle.record.specs.contracts.Record.layer as of-make-layer
use Rattle.record.proofs.Record.layer.Reads as of-make-layer-says
use Rattle.record.specs.contracts.Record.except_pg_net as of-make-except-pg-net
use Rattle.record.proofs.Record.except_pg_net.Reads as of-make-except-pg-net-says
use Rattle.record.specs.contracts.Record.spacing as of-make-spacing
use Rattle.record.proofs.Record.spacing.Reads as of-make-spacing-says
use Rattle.record.specs.contracts.Record.design_rule_width as of-make-design-rule-width
use Rattle.record.proofs.Record.design_rule_width.Reads as of-make-design-rule-width-says
use Rattle.record.specs.contracts.Record.width as of-make-width
use Rattle.record.proofs.Record.width.Reads as of-make-width-says
use Rattle.record.specs.contracts.Record.rect as of-make-rect
use Rattle.record.proofs.Record.rect.Reads as of-make-rect-says
use Rattle.record.specs.contracts.Record.polygon as of-make-polygon
use Rattle.record.proofs.Record.polygon.Reads as of-make-polygon-says
use Rattle.record.specs.contracts.Record.path as of-make-path
use Rattle.record.proofs.Record.path.Reads as of-make-path-says
use Rattle.record.specs.contracts.Record.point as of-make-point
use Rattle.record.proofs.Record.point.Reads as of-make-point-says
use Rattle.record.specs.contracts.Record.via as of-make-via
use Rattle.record.proofs.Record.via.Reads as of-make-via-says

pub record_kind : Settles of-record-kind.ended of-record-kind-says.Learnt
record_kind κs i a b v w p q = (same p q, refl)

pub record_code : Settles of-record-code.ended of-record-code-says.Learnt
record_code κs i a b v w p q = (same p q, refl)

pub record_spare : Settles of-record-spare.ended of-record-spare-says.Learnt
record_spare κs i a b v w p q = (same p q, refl)

pub record_at : Settles of-record-at.ended of-record-at-says.Learnt
record_at κs i a b v w p q = (same p q, refl)

pub record_owner : Settles of-record-owner.ended of-record-owner-says.Learnt
record_owner κs i a b v w p q = (same p q, refl)

pub record_name : Settles of-record-name.ended of-record-name-says.Learnt
record_name κs i a b v w p q = (same p q, refl)

pub record_len : Settles of-record-len.ended of-record-len-says.Learnt
record_len κs i a b v w p q = (same p q, refl)

pub record_x : Settles of-record-x.ended of-record-x-says.Learnt
record_x κs i a b v w p q = (same p q, refl)

pub record_y : Settles of-record-y.ended of-record-y-says.Learnt
record_y κs i a b v w p q = (same p q, refl)

pub record_of_bytes : Settles of-record-of-bytes.ended of-record-of-bytes-says.Learnt
record_of_bytes κs i a b v w p q = (same p q, refl)

pub make_version : Settles of-make-version.ended of-make-version-says.Learnt
make_version κs i a b v w p q = (same p q, refl)

pub make_bus_bit_chars : Settles of-make-bus-bit-chars.ended of-make-bus-bit-chars-says.Learnt
make_bus_bit_chars κs i a b v w p q = (same p q, refl)

pub make_divider_char : Settles of-make-divider-char.ended of-make-divider-char-says.Learnt
make_divider_char κs i a b v w p q = (same p q, refl)

pub make_names_case_sensitive : Settles of-make-names-case-sensitive.ended of-make-names-case-sensitive-says.Learnt
make_names_case_sensitive κs i a b v w p q = (same p q, refl)

pub make_no_wire_extension_at_pin : Settles of-make-no-wire-extension-at-pin.ended of-make-no-wire-extension-at-pin-says.Learnt
make_no_wire_extension_at_pin κs i a b v w p q = (same p q, refl)

pub make_units : Settles of-make-units.ended of-make-units-says.Learnt
make_units κs i a b v w p q = (same p q, refl)

pub make_database_microns : Settles of-make-database-microns.ended of-make-database-microns-says.Learnt
make_database_microns κs i a b v w p q = (same p q, refl)

pub make_site : Settles of-make-site.ended of-make-site-says.Learnt
make_site κs i a b v w p q = (same p q, refl)

pub make_site_class : Settles of-make-site-class.ended of-make-site-class-says.Learnt
make_site_class κs i a b v w p q = (same p q, refl)

pub make_symmetry : Settles of-make-symmetry.ended of-make-symmetry-says.Learnt
make_symmetry κs i a b v w p q = (same p q, refl)

pub make_symmetry_word : Settles of-make-symmetry-word.ended of-make-symmetry-word-says.Learnt
make_symmetry_word κs i a b v w p q = (same p q, refl)

pub make_size : Settles of-make-size.ended of-make-size-says.Learnt
make_size κs i a b v w p q = (same p q, refl)

pub make_macro : Settles of-make-macro.ended of-make-macro-says.Learnt
make_macro κs i a b v w p q = (same p q, refl)

pub make_macro_class : Settles of-make-macro-class.ended of-make-macro-class-says.Learnt
make_macro_class κs i a b v w p q = (same p q, refl)

pub make_macro_site : Settles of-make-macro-site.ended of-make-macro-site-says.Learnt
make_macro_site κs i a b v w p q = (same p q, refl)

pub make_foreign : Settles of-make-foreign.ended of-make-foreign-says.Learnt
make_foreign κs i a b v w p q = (same p q, refl)

pub make_foreign_at : Settles of-make-foreign-at.ended of-make-foreign-at-says.Learnt
make_foreign_at κs i a b v w p q = (same p q, refl)

pub make_origin : Settles of-make-origin.ended of-make-origin-says.Learnt
make_origin κs i a b v w p q = (same p q, refl)

pub make_pin : Settles of-make-pin.ended of-make-pin-says.Learnt
make_pin κs i a b v w p q = (same p q, refl)

pub make_direction : Settles of-make-direction.ended of-make-direction-says.Learnt
make_direction κs i a b v w p q = (same p q, refl)

pub make_use : Settles of-make-use.ended of-make-use-says.Learnt
make_use κs i a b v w p q = (same p q, refl)

pub make_shape : Settles of-make-shape.ended of-make-shape-says.Learnt
make_shape κs i a b v w p q = (same p q, refl)

pub make_antenna_model : Settles of-make-antenna-model.ended of-make-antenna-model-says.Learnt
make_antenna_model κs i a b v w p q = (same p q, refl)

pub make_antenna : Settles of-make-antenna.ended of-make-antenna-says.Learnt
make_antenna κs i a b v w p q = (same p q, refl)

pub make_port : Settles of-make-port.ended of-make-port-says.Learnt
make_port κs i a b v w p q = (same p q, refl)

pub make_port_class : Settles of-make-port-class.ended of-make-port-class-says.Learnt
make_port_class κs i a b v w p q = (same p q, refl)

pub make_obs : Settles of-make-obs.ended of-make-obs-says.Learnt
make_obs κs i a b v w p q = (same p q, refl)

pub make_layer : Settles of-make-layer.ended of-make-layer-says.Learnt
make_layer κs i a b v w p q = (same p q, refl)

pub make_except_pg_net : Settles of-make-except-pg-net.ended of-make-except-pg-net-says.Learnt
make_except_pg_net κs i a b v w p q = (same p q, refl)

pub make_spacing : Settles of-make-spacing.ended of-make-spacing-says.Learnt
make_spacing κs i a b v w p q = (same p q, refl)

pub make_design_rule_width : Settles of-make-design-rule-width.ended of-make-design-rule-width-says.Learnt
make_design_rule_width κs i a b v w p q = (same p q, refl)

pub make_width : Settles of-make-width.ended of-make-width-says.Learnt
make_width κs i a b v w p q = (same p q, refl)

pub make_rect : Settles of-make-rect.ended of-make-rect-says.Learnt
make_rect κs i a b v w p q = (same p q, refl)

pub make_polygon : Settles of-make-polygon.ended of-make-polygon-says.Learnt
make_polygon κs i a b v w p q = (same p q, refl)

pub make_path : Settles of-make-path.ended of-make-path-says.Learnt
make_path κs i a b v w p q = (same p q, refl)

pub make_point : Settles of-make-point.ended of-make-point-says.Learnt
make_point κs i a b v w p q = (same p q, refl)

pub make_via : Settles of-make-via.ended of-make-via-says.Learnt
make_via κs i a b v w p q = (same p q, refl)
