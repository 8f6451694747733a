pub mod PlanLaw
pub mod PlanCalls
