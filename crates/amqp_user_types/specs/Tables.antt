-- The table of a composite with fields of several values.
use Rattle.amqp_sums.specs.Types.{codes, refl, by_norm, uint_type, ushort_type, symbol_type, mandatory, none, field, ◌▸◌, Table}
use Rattle.amqp_containers.specs.MultipleFields.{multiple, normal_multiple}
use Rattle.amqp_user_types.specs.declared.offer.Offer.{Offer}

abbrev pub offer : Table Offer
offer = record {
  code = 0x99;
  name = codes "test:offer:list";
  fields =
      field (λ v. v.capabilities) (multiple symbol_type refl refl (λ v. tt))
      ▸ field (λ v. v.number) (mandatory uint_type refl refl)
      ▸ field (λ v. v.ports) (multiple ushort_type refl refl (λ v. tt))
      ▸ none;
  norm = by_norm (λ v. record v {
    capabilities = normal_multiple symbol_type refl v.capabilities;
    ports = normal_multiple ushort_type refl v.ports;
  });
  norm_is = λ v. (refl, (refl, (refl, tt)));
  is_small = refl;
}
