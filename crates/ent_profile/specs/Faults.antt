-- What is wrong with a request, by what is wrong with a value in it.
use Rattle.ent_values.specs.declared.fault.ValueFault.{ValueFault}
use Rattle.ent_values.specs.declared.fault.ValueFault.TheVariants as value
use Rattle.ent_profile.specs.declared.fault.RequestFault.{RequestFault}
use Rattle.ent_profile.specs.declared.fault.RequestFault.TheVariants as request

abbrev pub fault_of : ValueFault → RequestFault
fault_of value.BadValue = request.Bad
fault_of value.Memory = request.Memory
